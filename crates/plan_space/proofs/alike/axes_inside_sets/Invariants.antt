use Rattle.std.proofs.Common.{◌≡◌, ℕ, ◌<◌, [], length, get_or}
use Rattle.query_block.specs.Blocks.{block_tree}
use Rattle.plan_space.specs.Alike.{AreInside}
use Rattle.plan_space.proofs.alike.axes_inside_sets.Given as goal

abbrev pub invariant-loop-set : goal.invariant-loop-set
invariant-loop-set l = ((set : ℕ) → set < l.set → AreInside (block_tree l.costing.block) set (get_or l.sets set [])) × (length l.sets ≡ 64)
