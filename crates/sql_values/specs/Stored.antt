-- A stored table, over plain data: columns, rows of values, and the words that stand for them.
use Rattle.std.specs.Prelude.{◌≡◌, ◌≢◌, ℕ, ◌≤◌, false, not, ◌&&◌, nat_le, ℤ, List, [], ◌∷◌, map, count_by, Option, Some, None}
use Rattle.std.specs.List.{AllZip, filter_map, flat_map}
use Rattle.sql_values.specs.declared.value.Value.{Value}
use Rattle.sql_values.specs.declared.value.Value.TheVariants as value
use Rattle.sql_values.specs.declared.column.ColumnType.{ColumnType}
use Rattle.sql_values.specs.declared.column.ColumnType.TheVariants.{Integer, Varchar}
use Rattle.sql_values.specs.declared.column.ColumnDef.{ColumnDef}
use Rattle.sql_values.specs.Words.{null_word, word_of, value_of, IsWord}

-- a row of a table has a value in each column
abbrev pub ValueRow : Type 0
ValueRow = List Value

-- a table: its name, its columns, the numbers of those that are indexed, and its rows, in the order in which they came
pub record StoredTable : Type 0 where
  pub name : List ℕ
  pub columns : List ColumnDef
  pub indexed : List ℕ
  pub rows : List ValueRow

-- how many characters a text of UTF-8 has: a byte of 128 to 191 goes on with one
abbrev pub characters : List ℕ → ℕ
characters text = count_by (λ b. not (nat_le 128 b && nat_le b 191)) text

-- the text may stand in a column of this kind
abbrev pub IsTextOf : ColumnType → List ℕ → Type 0
IsTextOf Integer text = ⊥
IsTextOf (Varchar most) text = characters text ≤ most

-- the value fits the column
abbrev pub IsValueOf : ColumnDef → Value → Type 0
IsValueOf column value.Null = column.not_null ≡ false
IsValueOf column (value.Int number) = (column.kind ≡ Integer) × (number ≢ null_word)
IsValueOf column (value.Text text) = IsTextOf column.kind text

-- the row fits the columns: one value for each, that fits it
abbrev pub IsRowOf : List ColumnDef → ValueRow → Type 0
IsRowOf columns row = AllZip IsValueOf columns row

-- the values for which the words of a row stand
abbrev pub row_of : List (List ℕ) → List ColumnDef → List ℤ → ValueRow
row_of texts [] words = []
row_of texts (column ∷ columns) [] = []
row_of texts (column ∷ columns) (word ∷ words) = value_of texts column.kind word ∷ row_of texts columns words

-- the words may stand in a row of these columns
abbrev pub AreWords : List (List ℕ) → List ColumnDef → List ℤ → Type 0
AreWords texts columns words = AllZip (λ column word. IsWord texts column.kind word) columns words

-- the values for which the words of a row stand in columns of these kinds
abbrev pub values_of : List (List ℕ) → List ColumnType → List ℤ → ValueRow
values_of texts [] words = []
values_of texts (kind ∷ kinds) [] = []
values_of texts (kind ∷ kinds) (word ∷ words) = value_of texts kind word ∷ values_of texts kinds words

-- the words may stand in a row of columns of these kinds: one for each
abbrev pub AreWordsOf : List (List ℕ) → List ColumnType → List ℤ → Type 0
AreWordsOf texts kinds words = AllZip (IsWord texts) kinds words

-- the words of a row and its values, which fit the columns: each can be had from the other
pub record StandsFor (texts : List (List ℕ)) (columns : List ColumnDef) (words : List ℤ) (row : ValueRow) : Type 0 where
  pub values : row ≡ row_of texts columns words
  pub by_value : words ≡ map (word_of texts) row
  pub allowed : AreWords texts columns words
  pub fit : IsRowOf columns row

-- a value's text, if it is one
abbrev pub text_in : Value → Option (List ℕ)
text_in value.Null = None
text_in (value.Int _) = None
text_in (value.Text text) = Some text

-- the texts in rows, in their order, each as often as it stands there
abbrev pub texts_in : List ValueRow → List (List ℕ)
texts_in rows = filter_map text_in (flat_map (λ row. row) rows)
