-- The index of a column: an entry for each row in which the column isn't NULL, in order.
use Rattle.std.specs.Prelude.{ℕ, ◌+◌, ℤ, List, [], ◌∷◌, ◌++◌, length, slice_index_or, if◌then◌else◌}
use Rattle.std.specs.Ordering.{int_eq}
use Rattle.sql_values.specs.declared.value.Value.{Value}
use Rattle.sql_values.specs.declared.value.Value.TheVariants as value
use Rattle.sql_values.specs.Words.{null_word, word_of}
use Rattle.sql_values.specs.Stored.{ValueRow}
use Rattle.btree_index.specs.Entries.{IndexEntry, ordered}
use Rattle.btree_index.specs.Height.{height_of}
use Rattle.db_catalog.specs.Database.{DatabaseState, table_at, row_at}

-- the entry of a value in the row of this number: the value's word and that number; NULL has none
abbrev pub value_entry : List (List ℕ) → (number : ℕ) → Value → List IndexEntry
value_entry texts number value.Null = []
value_entry texts number (value.Int n) = (word_of texts (value.Int n), number) ∷ []
value_entry texts number (value.Text text) = (word_of texts (value.Text text), number) ∷ []

-- the entries of a column in rows, of which the first has this number
abbrev pub entries_from : List (List ℕ) → (column first : ℕ) → List ValueRow → List IndexEntry
entries_from texts column first [] = []
entries_from texts column first (row ∷ rows) =
    value_entry texts first (slice_index_or row column value.Null) ++ entries_from texts column (first + 1) rows

-- the entries of a column of the table of this number
abbrev pub column_entries : DatabaseState → (number column : ℕ) → List IndexEntry
column_entries database number column = entries_from database.texts column 0 (table_at database number).rows

-- the index of a column: its entries in order
abbrev pub index_at : DatabaseState → (number column : ℕ) → List IndexEntry
index_at database number column = ordered (column_entries database number column)

-- how many levels it has
abbrev pub index_height : DatabaseState → (number column : ℕ) → ℕ
index_height database number column = height_of (length (column_entries database number column))

-- the row of an entry
abbrev pub row_of_entry : DatabaseState → (table : ℕ) → IndexEntry → ValueRow
row_of_entry database table entry = row_at (table_at database table) entry.1

-- the entry of a word in the row of this number; NULL's word has none
abbrev pub word_entry : (number : ℕ) → ℤ → List IndexEntry
word_entry number word = if int_eq word null_word then [] else (word, number) ∷ []

-- the entries of a column in rows of words, of which the first has this number
abbrev pub word_entries : (column first : ℕ) → List (List ℤ) → List IndexEntry
word_entries column first [] = []
word_entries column first (words ∷ rows) =
    word_entry first (slice_index_or words column null_word) ++ word_entries column (first + 1) rows

-- the index of a column, as it is kept of all rows of words
abbrev pub kept_index : List (List ℤ) → (column : ℕ) → List IndexEntry
kept_index rows column = ordered (word_entries column 0 rows)

-- what is seen of a table's indexes: the columns that are indexed, and place by place the entries of each
pub record IndexesState : Type 0 where
  pub columns : List ℕ
  pub entries : List (List IndexEntry)
