use Rattle.std.proofs.Common.{◌≡◌, ◌∷◌, [], List, cond, true, All, SFits, w64, map, sym, ap, subst, ◌∙◌, rules}
use Rattle.std.proofs.lemmas.Int.{to_z-of_z}
use Rattle.std.specs.Prelude.{filter as kept}
use Rattle.std.proofs.Math.Bool.{and-true}
use Rattle.std.proofs.lemmas.List.Elements.{All-nil, All-cons}
use Rattle.query_block.specs.declared.condition.Condition.{Condition}
use Rattle.query_block.specs.Conditions.{filter_tree}
use Rattle.query_block.specs.Blocks.{FitsColumns}
use Rattle.query_block.specs.Meaning.{is_true, meets_filter}
use Rattle.query_block.specs.Truth.{truth_of}
use Rattle.plan_tree.specs.Usable.{is_fixed_usable}
use Rattle.plan_tree.specs.Ranges.{Finds}
use Rattle.plan_tree.proofs.MetParts.{usable-some}
use Rattle.plan_tree.proofs.PutPlans.{all-fixed}
use Rattle.row_filter.proofs.known.index_words.Goals as goal

pub returns : goal.returns
returns c =
    let texts = c.args.texts.now in
    let columns = c.args.columns.now in
    let column = c.in_ok-column.column in
    let tree = filter_tree c.args.condition.now in
    let usable = c.in_ok-column.ensures.usable in
    let from : SFits w64 c.range_of-range.result.from = search rules in
    let to : SFits w64 c.range_of-range.result.to = search rules in
    let fixed : is_fixed_usable columns column tree ≡ true = sym (all-fixed columns column tree c.requires.fits) ∙ usable in
    let finds = subst (λ (part : List Condition). All (FitsColumns [] columns) (map filter_tree part) → Finds texts columns column c.range_of-range.result (kept (is_fixed_usable columns column) (map filter_tree part)))
    c.from_ref.ensures.value (c.range_of-range.ensures [] columns) (All-cons (FitsColumns [] columns) tree [] c.requires.fits (All-nil (FitsColumns [] columns))) in
    c.without_null.ensures texts columns (λ row. is_true (truth_of tree row))
    (record {
      there = c.in_ok-column.ensures.there;
      some = λ row met. usable-some columns column tree row usable met;
      picks = λ row stored. simp to_z-of_z (finds row stored ∙ ap (λ b. meets_filter (cond b (tree ∷ []) []) row) fixed ∙ and-true (is_true (truth_of tree row)));
    })
