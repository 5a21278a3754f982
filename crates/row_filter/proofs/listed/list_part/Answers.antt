use Rattle.std.proofs.Common.{◌≡◌, ◌∙◌, ap, subst, sym}
use Rattle.query_block.specs.Conditions.{FilterTree, OneOf, filter_tree}
use Rattle.query_block.specs.Meaning.{is_true}
use Rattle.query_block.specs.Truth.{truth_of}
use Rattle.row_filter.specs.InLists.{AddsToList}
use Rattle.row_filter.proofs.Trees.{tree-of-in}
use Rattle.row_filter.proofs.listed.list_part.Goals as goal

pub returns-in-OneOf : goal.returns-in-OneOf
returns-in-OneOf c =
    let is : filter_tree c.args.part.now ≡ OneOf c.in-OneOf.of c.as_slice.result.now =
    ap filter_tree c.in-OneOf.is ∙ tree-of-in c.in-OneOf.of c.in-OneOf.operands ∙ ap (OneOf c.in-OneOf.of) (sym c.as_slice.ensures.value) in
    subst (λ (one : FilterTree). AddsToList c.args.texts.now c.args.columns.now (λ row. is_true (truth_of one row)) c.args.list.now c.list_values.new.list c.list_values.result) (sym is)
    c.list_values.ensures
