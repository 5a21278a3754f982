-- Regions of words of which a row has to be in one.
use Rattle.std.specs.Prelude.{◌≡◌, ℕ, ◌||◌, ◌≤◌, Bool, IfSome, IsTrue, List, Option, length, map, take}
use Rattle.std.specs.List.{AllZip, list_any}
use Rattle.sql_values.specs.declared.column.ColumnType.{ColumnType}
use Rattle.sql_values.specs.declared.op.Op.TheVariants.{Eq}
use Rattle.sql_values.specs.declared.value.Value.{Value}
use Rattle.sql_values.specs.Stored.{ValueRow}
use Rattle.sql_values.specs.Truth.{comparison}
use Rattle.query_block.specs.Conditions.{FilterTree}
use Rattle.query_block.specs.Meaning.{is_true}
use Rattle.query_block.specs.declared.condition.Operand.{Operand}
use Rattle.query_block.specs.Truth.{operand_value, truth_of, value_at}
use Rattle.db_catalog.specs.ColumnRanges.{IsWordsOf}
use Rattle.db_catalog.specs.declared.column_range.ColumnRange.{ColumnRange}
use Rattle.db_catalog.specs.Database.{DatabaseState, table_at}
use Rattle.row_filter.specs.declared.union.RangeUnion.{RangeUnion}
use Rattle.row_filter.specs.Regions.{Covers, IsRegionOf}

-- whether a row passes one of these tests
abbrev pub passes_any : List (ValueRow → Bool) → ValueRow → Bool
passes_any tests row = list_any (λ test. test row) tests

-- each region tells which rows pass a test, and a row passes one of these tests exactly where it passes this one
pub record IsUnionOf (texts : List (List ℕ)) (kinds : List ColumnType) (test : ValueRow → Bool) (union : RangeUnion) : Type 0 where
  pub room : length union.regions ≡ 16
  pub few : union.count ≤ 16
  pub tests : List (ValueRow → Bool)
  pub told : AllZip (IsRegionOf texts kinds) tests (take union.count union.regions)
  pub any : (row : ValueRow) → passes_any tests row ≡ test row

-- so it is of the columns of a table
abbrev pub IsUnionIn : DatabaseState → (table : ℕ) → (ValueRow → Bool) → RangeUnion → Type 0
IsUnionIn database table test union = IsUnionOf database.texts (map (λ column. column.kind) (table_at database table).columns) test union

-- each row that passes a test is told; if the union is exact, no other row is
pub record IsUnionCover (texts : List (List ℕ)) (kinds : List ColumnType) (test : ValueRow → Bool) (union : RangeUnion) : Type 0 where
  pub passed : ValueRow → Bool
  pub told : IsUnionOf texts kinds passed union
  pub covers : Covers union.exact test passed

-- it also tells the rows that pass another test, if there is room
abbrev pub AddsTest : List (List ℕ) → List ColumnType → (ValueRow → Bool) → (old new : RangeUnion) → (added : Bool) → Type 0
AddsTest texts kinds more old new added =
    (test : ValueRow → Bool) → IsTrue added → IsUnionCover texts kinds test old → IsUnionCover texts kinds (λ row. test row || more row) new

-- these are the regions of a union by which a condition is known, if it is
abbrev pub IsKnownUnion : List (List ℕ) → List ColumnType → FilterTree → Option RangeUnion → Type 0
IsKnownUnion texts kinds tree known = IfSome known (IsUnionCover texts kinds (λ row. is_true (truth_of tree row)))

-- these are the words of a column in the rows in which it is a value, if they are known
abbrev pub IsKnownEqual : List (List ℕ) → List ColumnType → (column : ℕ) → Value → Option ColumnRange → Type 0
IsKnownEqual texts kinds column value known = IfSome known (IsWordsOf texts kinds (λ row. is_true (comparison Eq (value_at row column) value)))

-- these are the words of a column in the rows in which two operands are equal, if they are known
abbrev pub EqualsIn : List (List ℕ) → List ColumnType → Operand → Operand → Option ColumnRange → Type 0
EqualsIn texts kinds a b known = IfSome known (IsWordsOf texts kinds (λ row. is_true (comparison Eq (operand_value row a) (operand_value row b))))
