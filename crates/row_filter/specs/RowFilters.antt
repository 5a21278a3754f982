-- A filter of which ranges of words tell some conditions, and the marks that it gives to rows.
use Rattle.std.specs.Prelude.{◌≡◌, ◌⊎◌, ℕ, ◌+◌, ◌<◌, ◌≤◌, ◌&&◌, get_or, length, Bool, true, false, IfSome, IsTrue, List, Option, map}
use Rattle.std.specs.List.{AllZip, list_all}
use Rattle.sql_values.specs.declared.column.ColumnType.{ColumnType}
use Rattle.sql_values.specs.Stored.{ValueRow}
use Rattle.query_block.specs.Conditions.{FilterTree}
use Rattle.query_block.specs.Meaning.{is_true, meets_filter}
use Rattle.query_block.specs.Parameters.{fixed_of}
use Rattle.query_block.specs.Truth.{truth_of}
use Rattle.narrow_columns.specs.Marks.{marks_of}
use Rattle.db_catalog.specs.declared.column_range.ColumnRange.{ColumnRange}
use Rattle.db_catalog.specs.Database.{DatabaseState, table_at}
use Rattle.db_catalog.specs.ColumnRanges.{IsWordsOf}
use Rattle.row_filter.specs.declared.union.RangeUnion.{RangeUnion}
use Rattle.row_filter.specs.declared.filter.Narrowed.{Narrowed}
use Rattle.row_filter.specs.Unions.{IsUnionOf}
use Rattle.heap_pages.specs.declared.spans.RowSpan.{RowSpan}

-- these are the words of a column in the rows on which a condition is true, if they are known
abbrev pub IsKnown : List (List ℕ) → List ColumnType → FilterTree → Option ColumnRange → Type 0
IsKnown texts kinds tree known = IfSome known (IsWordsOf texts kinds (λ row. is_true (truth_of tree row)))

-- what is seen of a filter: of each condition that is told the ranges, and whether these tell all of it
pub record FilterRanges : Type 0 where
  pub unions : List RangeUnion
  pub exact : Bool

-- whether a row passes each of these tests
abbrev pub passes_all : List (ValueRow → Bool) → ValueRow → Bool
passes_all tests row = list_all (λ test. test row) tests

-- each union of ranges tells which rows pass a test; a row that meets each fixed condition passes all of them; where exact, no other does
pub record IsRowFilter (texts : List (List ℕ)) (kinds : List ColumnType) (conditions : List FilterTree) (filter : FilterRanges) : Type 0 where
  pub tests : List (ValueRow → Bool)
  pub told : AllZip (IsUnionOf texts kinds) tests filter.unions
  pub none_missed : (row : ValueRow) → meets_filter (fixed_of conditions) row ≡ true → passes_all tests row ≡ true
  pub exact : IsTrue filter.exact → (row : ValueRow) → passes_all tests row ≡ meets_filter (fixed_of conditions) row

-- each of some unions tells which rows pass a test, and a row passes all of these tests exactly where it passes this one
pub record TellAll (texts : List (List ℕ)) (kinds : List ColumnType) (test : ValueRow → Bool) (unions : List RangeUnion) : Type 0 where
  pub tests : List (ValueRow → Bool)
  pub told : AllZip (IsUnionOf texts kinds) tests unions
  pub all : (row : ValueRow) → passes_all tests row ≡ test row

-- a union that stands among those of a filter, narrowed to the rows that another tells too
pub record IsNarrower (union : RangeUnion) (filter : FilterRanges) (narrowed : Narrowed) : Type 0 where
  pub there : narrowed.place < length filter.unions
  pub tells : (texts : List (List ℕ)) (kinds : List ColumnType) (test other : ValueRow → Bool) → IsUnionOf texts kinds test (get_or filter.unions narrowed.place union) → IsUnionOf texts kinds other union
      → IsUnionOf texts kinds (λ row. test row && other row) narrowed.union

-- a filter also tells the rows that a union tells, or there is no room for it, and ranges no longer tell all
pub record HasMore (union : RangeUnion) (old new : FilterRanges) : Type 0 where
  pub tells : (texts : List (List ℕ)) (kinds : List ColumnType) (test other : ValueRow → Bool) → TellAll texts kinds test old.unions → IsUnionOf texts kinds other union
      → TellAll texts kinds (λ row. test row && other row) new.unions
  pub exact : new.exact ≡ old.exact

pub record HasNoRoom (old new : FilterRanges) : Type 0 where
  pub unions : new.unions ≡ old.unions
  pub inexact : new.exact ≡ false

abbrev pub PutsUnion : RangeUnion → (old new : FilterRanges) → Type 0
PutsUnion union old new = HasMore union old new ⊎ HasNoRoom old new

-- a filter of these conditions, made for the columns of a table and the texts of its database
abbrev pub IsFilterOf : DatabaseState → (table : ℕ) → List FilterTree → FilterRanges → Type 0
IsFilterOf database table conditions filter =
    IsRowFilter database.texts (map (λ column. column.kind) (table_at database table).columns) conditions filter

-- and of some conditions
abbrev pub IsFilterIn : DatabaseState → (table : ℕ) → FilterRanges → Type 0
IsFilterIn database table filter = (conditions : List FilterTree) × IsFilterOf database table conditions filter

-- a table has these rows, which are at most 64
pub record IsSpanIn (database : DatabaseState) (table : ℕ) (span : RowSpan) : Type 0 where
  pub few : span.count ≤ 64
  pub there : span.first + span.count ≤ length (table_at database table).rows

-- marks of rows: no row that meets each fixed condition is without one; where exact, no other row has one
pub record AreMarks (conditions : List FilterTree) (is_exact : Bool) (rows : List ValueRow) (marks : ℕ) : Type 0 where
  pub test : ValueRow → Bool
  pub none_missed : (row : ValueRow) → meets_filter (fixed_of conditions) row ≡ true → test row ≡ true
  pub exact : IsTrue is_exact → (row : ValueRow) → test row ≡ meets_filter (fixed_of conditions) row
  pub are : marks ≡ marks_of (map test rows)
