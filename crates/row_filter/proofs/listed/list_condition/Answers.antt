use Rattle.std.proofs.Common.{◌≡◌, ◌∙◌, List, ap, map, subst, sym}
use Rattle.query_block.specs.Conditions.{FilterTree, Or, chain, filter_tree}
use Rattle.query_block.specs.Meaning.{is_true}
use Rattle.query_block.specs.Truth.{truth_of}
use Rattle.row_filter.specs.InLists.{AddsToList}
use Rattle.query_block.specs.declared.condition.Condition.{Condition}
use Rattle.row_filter.proofs.Trees.{tree-of-or}
use Rattle.row_filter.proofs.listed.list_condition.Goals as goal

pub returns-in-Or : goal.returns-in-Or
returns-in-Or c =
    let is : filter_tree c.args.condition.now ≡ Or (chain (map filter_tree c.as_slice.result.now)) =
    ap filter_tree c.in-Or.is ∙ tree-of-or c.in-Or.parts ∙ ap (λ (parts : List Condition). Or (chain (map filter_tree parts))) (sym c.as_slice.ensures.value) in
    subst (λ (one : FilterTree). AddsToList c.args.texts.now c.args.columns.now (λ row. is_true (truth_of one row)) c.args.list.now c.list_parts.new.list c.list_parts.result) (sym is)
    c.list_parts.ensures
