use Rattle.std.proofs.Common.{◌≡◌, ℕ, ◌<◌, false, length, get_or}
use Rattle.query_block.specs.Blocks.{relation_tree}
use Rattle.cost_model.specs.AtPoint.{has_open_usable}
use Rattle.cost_model.proofs.axes.open_columns_of.Given as goal

abbrev pub invariant-loop-column : goal.invariant-loop-column
invariant-loop-column l =
    ((column : ℕ) → column < l.column → get_or l.columns column false ≡ has_open_usable (relation_tree l.relation) column) × (length l.columns ≡ 32)
