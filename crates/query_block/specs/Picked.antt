-- The values that stand in a column, and in which rows a column has words of a range.
use Rattle.std.specs.Prelude.{◌≡◌, ℕ, ℤ, ◌&&◌, Bool, true, false, List, IsTrue, int_le, FitsSigned}
use Rattle.std.specs.Int.{w64}
use Rattle.sql_values.specs.declared.column.ColumnType.{ColumnType}
use Rattle.sql_values.specs.declared.value.Value.{Value}
use Rattle.sql_values.specs.declared.value.Value.TheVariants as value
use Rattle.sql_values.specs.Dictionary.{has_text}
use Rattle.sql_values.specs.Words.{word_of}
use Rattle.sql_values.specs.Stored.{ValueRow}
use Rattle.sql_values.specs.Truth.{is_null}
use Rattle.query_block.specs.Truth.{value_at}
use Rattle.query_block.specs.Blocks.{kind_at, holds_texts}

-- the value is of the kind of a column; a text is one of the dictionary
abbrev pub IsOfKind : List (List ℕ) → ColumnType → Value → Type 0
IsOfKind texts kind value.Null = Unit {0}
IsOfKind texts kind (value.Int number) = holds_texts kind ≡ false
IsOfKind texts kind (value.Text text) = (holds_texts kind ≡ true) × IsTrue (has_text texts text)

-- a value of a column, other than NULL, whose word has 64 bits
pub record IsStored (texts : List (List ℕ)) (kind : ColumnType) (v : Value) : Type 0 where
  pub some : is_null v ≡ false
  pub kind_is : IsOfKind texts kind v
  pub fits : FitsSigned w64 (word_of texts v)

-- of the rows that have a value in a column exactly those that pass a test have there a word from the first to the second
abbrev pub Picks : List (List ℕ) → List ColumnType → (column : ℕ) → (from to : ℤ) → (ValueRow → Bool) → Type 0
Picks texts kinds column from to test =
    (row : ValueRow) → IsStored texts (kind_at kinds column) (value_at row column)
    → (int_le from (word_of texts (value_at row column)) && int_le (word_of texts (value_at row column)) to) ≡ test row
