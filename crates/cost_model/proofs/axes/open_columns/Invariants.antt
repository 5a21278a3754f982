use Rattle.std.proofs.Common.{◌≡◌, ℕ, ◌<◌, [], length, get_or}
use Rattle.query_block.specs.Blocks.{block_tree, relation_at}
use Rattle.cost_model.specs.Axes.{AreOpenColumns}
use Rattle.cost_model.proofs.axes.open_columns.Given as goal

abbrev pub invariant-loop-relation : goal.invariant-loop-relation
invariant-loop-relation l =
    ((relation : ℕ) → relation < l.relation → AreOpenColumns (relation_at (block_tree l.block).relations relation) (get_or l.columns relation [])) × (length l.columns ≡ 6)
