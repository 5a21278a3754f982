-- Values as they are compared, and the values of a row of stored words.
use Rattle.std.specs.Prelude.{ℕ, ℤ, List, [], IsSome, unwrap_or}
use Rattle.sql_values.specs.declared.value.Value.{Value}
use Rattle.sql_values.specs.declared.value.Value.TheVariants as value
use Rattle.sql_values.specs.Dictionary.{text_of}
use Rattle.sql_values.specs.Stored.{ValueRow, values_of, AreWordsOf}
use Rattle.query_block.specs.declared.cell.Cell.{Cell}
use Rattle.query_block.specs.declared.cell.Cell.TheVariants as cell
use Rattle.query_block.specs.declared.row.Row.{Row}
use Rattle.query_block.specs.Conditions.{FilterTree}
use Rattle.query_block.specs.Blocks.{FitsColumns}

-- the text of a code
abbrev pub text_at : List (List ℕ) → ℤ → List ℕ
text_at texts code = unwrap_or (text_of texts code) []

-- the value of a cell
abbrev pub cell_value : List (List ℕ) → Cell → Value
cell_value texts cell.Null = value.Null
cell_value texts (cell.Int number) = value.Int number
cell_value texts (cell.Code code) = value.Text (text_at texts code)
cell_value texts (cell.Text text) = value.Text text.now

-- its code leads to a text
abbrev pub IsCell : List (List ℕ) → Cell → Type 0
IsCell texts (cell.Code code) = IsSome (text_of texts code)
IsCell texts other = Unit {0}

-- the values for which the words of a row stand
abbrev pub row_values : Row → ValueRow
row_values row = values_of row.texts.now row.columns.now row.words.now

-- the words may stand in a row of these columns
abbrev pub IsRow : Row → Type 0
IsRow row = AreWordsOf row.texts.now row.columns.now row.words.now

-- so they may, and a condition without parameters fits the columns: its truth on the row may be asked for
pub record FitsRow (of : Row) (tree : FilterTree) : Type 0 where
  pub row : IsRow of
  pub fits : FitsColumns [] of.columns.now tree
