-- What is seen of a reader of a whole table, what it has left to read, and what is always so of it.
use Rattle.std.specs.Prelude.{◌≡◌, ℕ, ℤ, ◌+◌, ◌-◌, ◌*◌, ◌<◌, ◌≤◌, min, Bool, true, false, List, [], MatchOption, Option, Some, None, length, drop}
use Rattle.sql_values.specs.Limits.{max_columns}
use Rattle.sql_values.specs.Stored.{ValueRow}
use Rattle.heap_pages.specs.Rows.{rows_per_page, row_number}
use Rattle.plan_tree.specs.Left.{Left}
use Rattle.work_ledger.specs.Charges.{page_charge}
use Rattle.db_catalog.specs.Database.{DatabaseState, table_at}
use Rattle.db_catalog.specs.ColumnRanges.{slot_words}
use Rattle.db_catalog.specs.Meter.{IsRowIn, table_pages}
use Rattle.db_catalog.specs.Opened.{OpenedPageState, PageMarksState}

-- the table; how many pages it has, and how many of them are opened; the key to the last of these, how many rows stand on it,
-- and how many of those are looked at
pub record TableReaderState : Type 0 where
  pub table : ℕ
  pub pages : ℕ
  pub opened : ℕ
  pub key : Option OpenedPageState
  pub slots : ℕ
  pub slot : ℕ

-- the number of the page to which a key is, from 0
abbrev pub page_by : Option OpenedPageState → ℕ
page_by None = 0
page_by (Some key) = key.page

-- the number of the page at hand: the last that is opened, or before that the first
abbrev pub page_of : TableReaderState → ℕ
page_of reader = page_by reader.key

-- the table is there, and rows of it stand on a page
pub record HasTable (database : DatabaseState) (table : ℕ) : Type 0 where
  pub there : table < length database.tables
  pub some : 1 ≤ length (table_at database table).columns
  pub few : length (table_at database table).columns ≤ max_columns

-- the table is there and has so many pages; the key is that of the page at hand, once one is opened, and the rows on it are
-- the last on the opened pages
pub record IsTableReader (database : DatabaseState) (reader : TableReaderState) : Type 0 where
  pub table : HasTable database reader.table
  pub pages : reader.pages ≡ table_pages database reader.table
  pub opened : reader.opened ≤ reader.pages
  pub key : MatchOption reader.key (reader.opened ≡ 0) (λ key. (key.table ≡ reader.table) × (0 < reader.opened))
  pub page : page_of reader ≡ reader.opened - 1
  pub rows : row_number (length (table_at database reader.table).columns) (page_of reader) reader.slots
      ≡ min (reader.opened * rows_per_page (length (table_at database reader.table).columns))
      (length (table_at database reader.table).rows)
  pub slot : reader.slot ≤ reader.slots

-- the words of the rows on the page at hand, one row after another
pub record ArePageWords (database : DatabaseState) (reader : TableReaderState) (page : List ℤ) : Type 0 where
  pub filled : length page ≡ reader.slots * length (table_at database reader.table).columns
  pub rows : (slot : ℕ) → slot < reader.slots → IsRowIn database reader.table (page_of reader) slot (slot_words page (length (table_at database reader.table).columns) slot)

-- the marks of the rows on the page at hand
abbrev pub marks_at_hand : DatabaseState → TableReaderState → PageMarksState
marks_at_hand database reader = record {
  database = database;
  table = reader.table;
  first = row_number (length (table_at database reader.table).columns) (page_of reader) 0;
  rows = reader.slots;
}

-- the rows of the table from a slot of the page at hand on
abbrev pub table_from : DatabaseState → TableReaderState → (slot : ℕ) → List ValueRow
table_from database reader slot =
    let table = table_at database reader.table in drop (row_number (length table.columns) (page_of reader) slot) table.rows

-- the rows that aren't looked at yet
abbrev pub table_ahead : DatabaseState → TableReaderState → List ValueRow
table_ahead database reader = table_from database reader reader.slot

-- what looking at them has left: no row comes of it alone; each page that isn't opened is due, and each row that stands on none
-- of the opened pages
abbrev pub table_due : DatabaseState → TableReaderState → Left
table_due database reader =
    let table = table_at database reader.table in
    record {
      rest = [];
      due = page_charge * (reader.pages - reader.opened) + (length table.rows - reader.opened * rows_per_page (length table.columns));
    }

-- no page of the table is opened yet: all its rows are ahead, and its pages and rows are due
pub record StartsTable (database : DatabaseState) (number : ℕ) (at : TableReaderState) : Type 0 where
  pub table : at.table ≡ number
  pub reader : IsTableReader database at
  pub rows : table_ahead database at ≡ (table_at database number).rows
  pub due : (table_due database at).due ≡ page_charge * table_pages database number + length (table_at database number).rows

-- the next page is opened, none of whose rows is looked at; or all pages are opened, nothing is due, and nothing changes
abbrev pub OpensNext : DatabaseState → (old new : TableReaderState) → (more : Bool) → Type 0
OpensNext database old new true = (new.opened ≡ old.opened + 1) × (table_ahead database new ≡ table_ahead database old)
OpensNext database old new false = (table_ahead database old ≡ []) × ((table_due database old).due ≡ 0) × (new ≡ old)

-- it goes on in its table, and only where it is in it changes
pub record ReadsTableOn (database : DatabaseState) (old new : TableReaderState) : Type 0 where
  pub moves : new ≡ record old { opened = new.opened; key = new.key; slots = new.slots; slot = new.slot }
  pub reader : IsTableReader database new
