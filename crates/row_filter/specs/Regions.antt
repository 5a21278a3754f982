-- Regions of words: what the words of a row have to be, so that it is in one.
use Rattle.std.specs.Prelude.{◌≡◌, ℕ, ◌&&◌, Bool, true, IsTrue, List, map}
use Rattle.sql_values.specs.declared.column.ColumnType.{ColumnType}
use Rattle.sql_values.specs.Stored.{ValueRow}
use Rattle.db_catalog.specs.ColumnRanges.{IsWordsOf}
use Rattle.db_catalog.specs.declared.column_range.ColumnRange.{ColumnRange}
use Rattle.db_catalog.specs.Database.{DatabaseState, table_at}
use Rattle.row_filter.specs.declared.region.Region.{Region}
use Rattle.row_filter.specs.declared.region.Region.TheVariants.{Every, Range, Pair}
use Rattle.row_filter.specs.declared.known_region.KnownRegion.{KnownRegion}

-- two ranges tell which rows pass a test each, and a row passes both exactly where it passes this one
pub record IsPairOf (texts : List (List ℕ)) (kinds : List ColumnType) (test : ValueRow → Bool) (first second : ColumnRange) : Type 0 where
  pub one : ValueRow → Bool
  pub other : ValueRow → Bool
  pub one_told : IsWordsOf texts kinds one first
  pub other_told : IsWordsOf texts kinds other second
  pub both : (row : ValueRow) → (one row && other row) ≡ test row

-- of rows that may stand in columns of these kinds exactly those are in a region that pass a test
abbrev pub IsRegionOf : List (List ℕ) → List ColumnType → (ValueRow → Bool) → Region → Type 0
IsRegionOf texts kinds test Every = (row : ValueRow) → test row ≡ true
IsRegionOf texts kinds test (Range found) = IsWordsOf texts kinds test found
IsRegionOf texts kinds test (Pair first second) = IsPairOf texts kinds test first second

-- so it is of the columns of a table
abbrev pub IsRegionIn : DatabaseState → (table : ℕ) → (ValueRow → Bool) → Region → Type 0
IsRegionIn database table test region = IsRegionOf database.texts (map (λ column. column.kind) (table_at database table).columns) test region

-- each row that passes a test passes another; if that is exact, no other row does
pub record Covers (is_exact : Bool) (test passed : ValueRow → Bool) : Type 0 where
  pub none_missed : (row : ValueRow) → test row ≡ true → passed row ≡ true
  pub exact : IsTrue is_exact → (row : ValueRow) → passed row ≡ test row

-- each row that passes a test is in a region; if that is exact, no other row is
pub record IsKnownRegion (texts : List (List ℕ)) (kinds : List ColumnType) (test : ValueRow → Bool) (known : KnownRegion) : Type 0 where
  pub passed : ValueRow → Bool
  pub told : IsRegionOf texts kinds passed known.region
  pub covers : Covers known.exact test passed
