-- Which rows of a table pass a test, by the words of one column.
use Rattle.std.specs.Prelude.{◌≡◌, ℕ, ◌+◌, ◌<◌, ◌≤◌, Bool, count_by, length, map}
use Rattle.narrow_columns.specs.Marks.{marks_of}
use Rattle.heap_pages.specs.Spans.{rows_of_span}
use Rattle.heap_pages.specs.declared.spans.RowSpan.{RowSpan}
use Rattle.sql_values.specs.Stored.{ValueRow}
use Rattle.db_catalog.specs.ColumnRanges.{IsWordsOf}
use Rattle.db_catalog.specs.Database.{DatabaseState, table_at}
use Rattle.db_catalog.specs.declared.column_range.ColumnRange.{ColumnRange}

-- the words of a range are those of a test on the rows of a table
abbrev pub IsWordsIn : DatabaseState → (table : ℕ) → (ValueRow → Bool) → ColumnRange → Type 0
IsWordsIn database table test found =
    IsWordsOf database.texts (map (λ column. column.kind) (table_at database table).columns) test found

-- a table has such a column, and these rows, which are at most 64
pub record HasSpan (database : DatabaseState) (table : ℕ) (found : ColumnRange) (span : RowSpan) : Type 0 where
  pub column : found.column < length (table_at database table).columns
  pub few : span.count ≤ 64
  pub there : span.first + span.count ≤ length (table_at database table).rows

-- the marks are those of the rows of a span that pass a test, whichever test the words are of
abbrev pub AreMarksOf : DatabaseState → (table : ℕ) → ColumnRange → RowSpan → (marks : ℕ) → Type 0
AreMarksOf database table found span marks =
    (test : ValueRow → Bool) → IsWordsIn database table test found
    → marks ≡ marks_of (map test (rows_of_span span (table_at database table).rows))

-- so many of its rows pass a test, whichever test the words are of
abbrev pub IsCountOf : DatabaseState → (table : ℕ) → ColumnRange → (count : ℕ) → Type 0
IsCountOf database table found count =
    (test : ValueRow → Bool) → IsWordsIn database table test found → count ≡ count_by test (table_at database table).rows
