use Rattle.std.proofs.Common.{◌≡◌, ℕ, ◌<◌, None, length, get_or}
use Rattle.query_block.specs.Blocks.{axis_of, block_tree}
use Rattle.cost_model.proofs.axes.relation_axes.Given as goal

abbrev pub invariant-loop-relation : goal.invariant-loop-relation
invariant-loop-relation l =
    ((relation : ℕ) → relation < l.relation → get_or l.axes relation None ≡ axis_of (block_tree l.block) relation) × (length l.axes ≡ 6)
