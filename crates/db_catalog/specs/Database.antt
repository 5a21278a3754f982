-- What is seen of a database, and what its calls make of it.
use Rattle.std.specs.Prelude.{◌≡◌, ℕ, ◌<◌, ◌*◌, ◌/◌, List, [], ◌∷◌, ◌++◌, Option, All, length, map, position, slice_index_or, slice_set, ℤ}
use Rattle.std.specs.Str.{bytes_eq}
use Rattle.sql_values.specs.declared.column.ColumnDef.{ColumnDef}
use Rattle.sql_values.specs.Dictionary.{with_texts}
use Rattle.sql_values.specs.declared.value.Value.{Value}
use Rattle.sql_values.specs.Stored.{StoredTable, ValueRow, IsRowOf, StandsFor, texts_in}
use Rattle.heap_pages.specs.Rows.{cut_rows}

-- the tables in the order in which they were made, the different texts that stand in them, and the names of all indexes
pub record DatabaseState : Type 0 where
  pub tables : List StoredTable
  pub texts : List (List ℕ)
  pub index_names : List (List ℕ)

-- a new table has no rows
abbrev pub new_table : List ℕ → List ColumnDef → StoredTable
new_table name columns = record { name = name; columns = columns; indexed = []; rows = [] }

-- the table of this number, from 0
abbrev pub table_at : DatabaseState → ℕ → StoredTable
table_at database number = slice_index_or database.tables number (new_table [] [])

-- row i of a table, from 0
abbrev pub row_at : StoredTable → ℕ → ValueRow
row_at table i = slice_index_or table.rows i []

-- the number of the table of this name, where there is one
abbrev pub table_number : DatabaseState → List ℕ → Option ℕ
table_number database name = position (bytes_eq name) (map (λ table. table.name) database.tables)

-- a table more, which comes last
abbrev pub with_table : DatabaseState → StoredTable → DatabaseState
with_table database table = record database { tables = database.tables ++ table ∷ [] }

-- rows behind those that a table has
abbrev pub more_rows : StoredTable → List ValueRow → StoredTable
more_rows table rows = record table { rows = table.rows ++ rows }

-- rows behind those of the table of this number, and behind the texts those of the rows that are new
abbrev pub with_rows : DatabaseState → ℕ → List ValueRow → DatabaseState
with_rows database number rows = record database {
  tables = slice_set database.tables number (more_rows (table_at database number) rows);
  texts = with_texts database.texts (texts_in rows);
}

-- a column more that is indexed, which comes last
abbrev pub more_indexed : StoredTable → ℕ → StoredTable
more_indexed table column = record table { indexed = table.indexed ++ column ∷ [] }

-- a column more that is indexed in the table of this number, by an index of this name
abbrev pub with_index : DatabaseState → List ℕ → (number column : ℕ) → DatabaseState
with_index database name number column = record database {
  tables = slice_set database.tables number (more_indexed (table_at database number) column);
  index_names = database.index_names ++ name ∷ [];
}

-- the words stand for row i of the table of this number
abbrev pub IsRowAt : DatabaseState → ℕ → ℕ → List ℤ → Type 0
IsRowAt database number i words =
    let table = table_at database number in
    StandsFor database.texts table.columns words (row_at table i)

-- each row of the table of this number stands in it as words
abbrev pub StandAsWords : DatabaseState → (number : ℕ) → Type 0
StandAsWords database number =
    (i : ℕ) → i < length (table_at database number).rows → (words : List ℤ) × IsRowAt database number i words

-- values that follow one another, as rows of these columns
abbrev pub rows_in : List ColumnDef → List Value → List ValueRow
rows_in columns values = cut_rows (length columns) (length values / length columns) values

-- the values fill whole rows, each of which fits the columns
pub record FillRows (columns : List ColumnDef) (values : List Value) : Type 0 where
  pub whole : length values ≡ length values / length columns * length columns
  pub fit : All (IsRowOf columns) (rows_in columns values)
