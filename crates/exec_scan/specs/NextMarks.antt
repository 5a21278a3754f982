-- The marks of the rows of a table that come next.
use Rattle.std.specs.Prelude.{◌≡◌, ℕ, ◌-◌, ◌<◌, ◌≤◌, Bool, true, false, List, [], length, slice_index_or, take}
use Rattle.query_block.specs.Conditions.{FilterTree}
use Rattle.row_filter.specs.RowFilters.{AreMarks}
use Rattle.db_catalog.specs.Database.{DatabaseState}
use Rattle.exec_scan.specs.declared.marks.NextMarks.{NextMarks}
use Rattle.exec_scan.specs.TableReading.{TableReaderState, table_ahead}

-- of these rows, by their marks, the first that is marked has so many before it
pub record IsFirstMarked (rows : List Bool) (before : ℕ) : Type 0 where
  pub there : before < length rows
  pub unmarked : (row : ℕ) → row < before → slice_index_or rows row false ≡ false
  pub marked : slice_index_or rows before false ≡ true

-- these are the marks of the rows ahead up to where they end, on the page at hand; without conditions none are taken
pub record AreNextMarks (database : DatabaseState) (conditions : List FilterTree) (exact : Bool) (reader : TableReaderState) (next : NextMarks) : Type 0 where
  pub on_page : next.end ≤ reader.slots
  pub marks : AreMarks conditions exact (take (next.end - reader.slot) (table_ahead database reader)) next.marks
  pub asked : conditions ≡ [] → next.end ≡ 0
