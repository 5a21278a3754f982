use Rattle.std.proofs.Common.{◌≡◌, ◌++◌, map, take}
use Rattle.heap_pages.specs.Rows.{cut_rows}
use Rattle.db_catalog.specs.Indexes.{kept_index}
use Rattle.db_catalog.proofs.table.Table.indexes_with.Given as goal

abbrev pub invariant-loop-place : goal.invariant-loop-place
invariant-loop-place l =
    l.indexes.items ≡ map (kept_index (l.self.heap.rows ++ cut_rows l.self.heap.columns l.rows l.words)) (take l.place l.self.indexes.columns)
