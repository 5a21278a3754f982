use Rattle.std.proofs.Common.{◌≡◌, []}
use Rattle.heap_pages.specs.Rows.{cut_rows}
use Rattle.db_catalog.proofs.batch.Batch.filled.Given as goal

abbrev pub invariant-loop-i : goal.invariant-loop-i
invariant-loop-i l = l.batch ≡ record { columns = l.columns; rows = cut_rows l.width l.i l.values; row = [] }
