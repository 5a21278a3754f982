use Rattle.std.proofs.Common.{length}
use Rattle.layers.proofs.tables.+is_row_of.Given as goal

abbrev pub decreases-is_row_of : goal.decreases-is_row_of
decreases-is_row_of l = length l.columns.now
