-- How tables and batches are kept: as words, of which each means something.
use Rattle.std.specs.Prelude.{◌≡◌, ℕ, ◌*◌, ◌^◌, ◌<◌, ◌≤◌, ℤ, List, [], ◌∷◌, ◌++◌, All, length, map, nat_eq, take, sum_by, slice_get, slice_index_or, slice_set, Some}
use Rattle.std.specs.List.{IsDistinct}
use Rattle.std.specs.Str.{bytes_eq}
use Rattle.sql_values.specs.declared.column.ColumnDef.{ColumnDef}
use Rattle.sql_values.specs.Limits.{max_tables, max_columns}
use Rattle.sql_values.specs.Dictionary.{with_texts}
use Rattle.sql_values.specs.Stored.{StoredTable, IsRowOf, AreWords, row_of, texts_in}
use Rattle.heap_pages.specs.Rows.{HeapState, cut_rows}
use Rattle.db_catalog.specs.Database.{DatabaseState, table_at, IsRowAt}
use Rattle.db_catalog.specs.Indexes.{IndexesState, kept_index}
use Rattle.db_catalog.specs.declared.table.Table.{Table}

-- each row of words means a row that fits the columns
pub record MeanRows (texts : List (List ℕ)) (columns : List ColumnDef) (rows : List (List ℤ)) : Type 0 where
  pub allowed : All (AreWords texts columns) rows
  pub fit : All (λ words. IsRowOf columns (row_of texts columns words)) rows

-- rows of other words mean the same by other texts
pub record SameRows (columns : List ColumnDef) (texts new : List (List ℕ)) (rows rows' : List (List ℤ)) : Type 0 where
  pub mean : MeanRows new columns rows'
  pub same : map (row_of new columns) rows' ≡ map (row_of texts columns) rows

-- words mean the front of such a row
pub record MeansFront (texts : List (List ℕ)) (columns : List ColumnDef) (words : List ℤ) : Type 0 where
  pub short : length words ≤ length columns
  pub allowed : AreWords texts (take (length words) columns) words
  pub fit : IsRowOf (take (length words) columns) (row_of texts columns words)

-- what is seen of a table
abbrev pub stored_table : List (List ℕ) → Table → StoredTable
stored_table texts table = record {
  name = table.name;
  columns = table.columns.items;
  indexed = table.indexes.columns;
  rows = map (row_of texts table.columns.items) table.heap.rows;
}

-- how many words stand in tables
abbrev pub kept_words : List Table → ℕ
kept_words tables = sum_by (λ table. length table.heap.rows * length table.columns.items) tables

-- the indexes of a table: of columns that exist, each with exactly the entries of its column
pub record AreIndexes (table : Table) : Type 0 where
  pub there : All (λ column. column < table.heap.columns) table.indexes.columns
  pub entries : table.indexes.entries ≡ map (kept_index table.heap.rows) table.indexes.columns

-- a table of rows as wide as it is
pub record IsWide (table : Table) : Type 0 where
  pub width : table.heap.columns ≡ length table.columns.items
  pub wide : All (λ words. length words ≡ table.heap.columns) table.heap.rows

-- so many words make so many rows, whose number can be added to, of a table with indexes
pub record HasWords (words rows : ℕ) (table : Table) : Type 0 where
  pub few : rows ≤ 2 ^ 62
  pub is_wide : IsWide table
  pub filled : words ≡ rows * table.heap.columns
  pub indexes : AreIndexes table

-- a table with such a column
pub record HasColumn (column : ℕ) (table : Table) : Type 0 where
  pub is_wide : IsWide table
  pub there : column < table.heap.columns

-- rows of words more in a table, and in its indexes
pub record TakesWords (rows : ℕ) (words : List ℤ) (old new : Table) : Type 0 where
  pub heap : HeapState
  pub indexes : IndexesState
  pub columns : heap.columns ≡ old.heap.columns
  pub appended : heap.rows ≡ old.heap.rows ++ cut_rows old.heap.columns rows words
  pub indexed : indexes.columns ≡ old.indexes.columns
  pub entries : indexes.entries ≡ map (kept_index heap.rows) old.indexes.columns
  pub table : new ≡ record old { heap = heap; indexes = indexes }

-- an index more, of this column
abbrev pub with_column : Table → ℕ → Table
with_column table column = record table {
  indexes = record {
    columns = table.indexes.columns ++ column ∷ [];
    entries = table.indexes.entries ++ kept_index table.heap.rows column ∷ [];
  };
}

-- rows of words more in the table at this place
pub record AppendsWords (number rows : ℕ) (words : List ℤ) (old new : List Table) : Type 0 where
  pub table : Table
  pub after : Table
  pub there : table ≡ slice_index_or old number table
  pub takes : TakesWords rows words table after
  pub tables : new ≡ slice_set old number after

-- an index more of the table at this place
pub record IndexesColumn (number column : ℕ) (old new : List Table) : Type 0 where
  pub table : Table
  pub there : table ≡ slice_index_or old number table
  pub tables : new ≡ slice_set old number (with_column table column)

-- a table's columns and words, the width of its heap, and its indexes
pub record IsKept (texts : List (List ℕ)) (table : Table) : Type 0 where
  pub some_columns : 1 ≤ length table.columns.items
  pub few_columns : length table.columns.items ≤ max_columns
  pub width : table.heap.columns ≡ length table.columns.items
  pub rows : MeanRows texts table.columns.items table.heap.rows
  pub indexes : AreIndexes table
  pub indexed_once : IsDistinct nat_eq table.indexes.columns

-- the parts of a database
pub record AreKept (names texts : List (List ℕ)) (tables : List Table) : Type 0 where
  pub names_of_tables : names ≡ map (λ table. table.name) tables
  pub few_tables : length tables ≤ max_tables
  pub each_kept : All (IsKept texts) tables
  pub distinct_texts : IsDistinct bytes_eq texts

-- the heap of a table: as wide as the table, and each of its rows stands for the table's row of that number
pub record IsHeapOf (database : DatabaseState) (number : ℕ) (heap : HeapState) : Type 0 where
  pub width : heap.columns ≡ length (table_at database number).columns
  pub count : length heap.rows ≡ length (table_at database number).rows
  pub rows : (i : ℕ) → (words : List ℤ) → slice_get heap.rows i ≡ Some words → IsRowAt database number i words

-- the parts of a batch: whole rows, the open one, for which there is room, and the texts of both
pub record IsBatch (columns : List ColumnDef) (texts : List (List ℕ)) (rows : ℕ) (words row : List ℤ) (room : ℕ) : Type 0 where
  pub some_columns : 1 ≤ length columns
  pub room_for_row : length columns ≤ room
  pub words_fill_rows : length words ≡ rows * length columns
  pub rows_mean : MeanRows texts columns (cut_rows (length columns) rows words)
  pub row_means : MeansFront texts columns row
  pub exact_texts : texts ≡ with_texts [] (texts_in
      (map (row_of texts columns) (cut_rows (length columns) rows words) ++ row_of texts columns row ∷ []))
