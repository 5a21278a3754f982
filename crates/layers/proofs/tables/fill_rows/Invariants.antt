use Rattle.std.proofs.Common.{◌/◌, ◌<◌, [], ℕ, get_or, length}
use Rattle.sql_values.specs.Stored.{IsRowOf}
use Rattle.heap_pages.specs.Rows.{cut_rows}
use Rattle.layers.proofs.tables.fill_rows.Given as goal

abbrev pub invariant-loop-i : goal.invariant-loop-i
invariant-loop-i l = (k : ℕ) → k < l.i → IsRowOf l.columns (get_or (cut_rows l.width (length l.values / l.width) l.values) k [])
