use Rattle.std.proofs.Common.{◌≡◌, ◌&&◌, drop, map}
use Rattle.std.specs.List.{list_any}
use Rattle.query_block.specs.Parameters.{is_open}
use Rattle.query_block.specs.Conditions.{filter_tree}
use Rattle.plan_tree.specs.Usable.{is_usable}
use Rattle.cost_model.proofs.axes.has_open_usable.Given as goal

abbrev pub invariant-loop-conjunct : goal.invariant-loop-conjunct
invariant-loop-conjunct l =
    list_any (λ conjunct. is_usable l.columns l.column conjunct && is_open conjunct) (map filter_tree l.conjunct-items)
    ≡ list_any (λ conjunct. is_usable l.columns l.column conjunct && is_open conjunct) (map filter_tree (drop l.conjunct-index l.conjunct-items))
