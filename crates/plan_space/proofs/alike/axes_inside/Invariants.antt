use Rattle.std.proofs.Common.{◌≡◌, ℕ, ◌<◌, length}
use Rattle.query_block.specs.Blocks.{block_tree}
use Rattle.plan_space.specs.Alike.{MarksEdges, MarksRelation}
use Rattle.plan_space.proofs.alike.axes_inside.Given as goal

abbrev pub invariant-loop-relation : goal.invariant-loop-relation
invariant-loop-relation l =
    MarksEdges (block_tree l.costing.block) l.set l.inside
    × ((relation : ℕ) → relation < l.relation → MarksRelation (block_tree l.costing.block) l.set relation l.inside)
    × (length l.inside ≡ 6)
