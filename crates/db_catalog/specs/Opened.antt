-- A page that is paid with all its rows, and whoever marks these.
use Rattle.std.specs.Prelude.{◌≡◌, ℕ, ◌+◌, ◌<◌, ◌≤◌, length}
use Rattle.heap_pages.specs.Rows.{row_number}
use Rattle.heap_pages.specs.declared.spans.RowSpan.{RowSpan}
use Rattle.db_catalog.specs.Database.{DatabaseState, table_at}
use Rattle.db_catalog.specs.Meter.{page_rows, table_pages}

-- what is seen of the key to a page: which page of which table it is
pub record OpenedPageState : Type 0 where
  pub table : ℕ
  pub page : ℕ

-- the database has such a page
abbrev pub HasPage : DatabaseState → OpenedPageState → Type 0
HasPage database key = key.page < table_pages database key.table

-- what is seen of the marks of a page: the database, the table, the number of the page's first row, and how many rows stand
-- on it
pub record PageMarksState : Type 0 where
  pub database : DatabaseState
  pub table : ℕ
  pub first : ℕ
  pub rows : ℕ

-- the marks of the page to which a key is
abbrev pub marks_on : DatabaseState → OpenedPageState → PageMarksState
marks_on database key = record {
  database = database;
  table = key.table;
  first = row_number (length (table_at database key.table).columns) key.page 0;
  rows = page_rows database key.table key.page;
}

-- the rows of a span of a table stand on this page
pub record AreOnPage (page : PageMarksState) (table : ℕ) (span : RowSpan) : Type 0 where
  pub of_table : table ≡ page.table
  pub from : page.first ≤ span.first
  pub to : span.first + span.count ≤ page.first + page.rows
