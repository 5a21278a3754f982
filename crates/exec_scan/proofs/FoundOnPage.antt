-- The rows on the page at hand of a reader of a table: their words, and the row that was looked at last.
use Rattle.std.proofs.Common.{◌≡◌, ℕ, zero, suc, ℤ, ◌+◌, ◌-◌, ◌*◌, ◌<◌, List, [], ◌∷◌, min, MatchOption, None, Option, Some, length, drop, get_or, sym, ap, subst, ◌∙◌, arith}
use Rattle.std.proofs.lemmas.List.{drop_more, length-map}
use Rattle.sql_values.specs.Stored.{StandsFor}
use Rattle.query_block.specs.Blocks.{RelationTree}
use Rattle.heap_pages.specs.Rows.{row_number, rows_per_page}
use Rattle.db_catalog.specs.ColumnRanges.{slot_words}
use Rattle.db_catalog.specs.Database.{DatabaseState, table_at}
use Rattle.db_catalog.specs.Meter.{IsRowIn, page_rows, table_pages}
use Rattle.db_catalog.specs.Opened.{HasPage, OpenedPageState, PageMarksState, marks_on}
use Rattle.exec_scan.specs.Reading.{IsFirstRow, IsRelationIn}
use Rattle.exec_scan.specs.TableReading.{ArePageWords, IsTableReader, TableReaderState, marks_at_hand, page_by, page_of, table_from}
use Rattle.exec_scan.proofs.Relations.{first-of}

-- so many rows stand on the page, once one is opened
many-of : (rows per slots page opened : ℕ) → 0 < opened → page ≡ opened - 1 → page * per + slots ≡ min (opened * per) rows → min per (rows - page * per) ≡ slots
many-of rows per slots page zero some at stand = absurd (omega (arith, some))
many-of rows per slots page (suc opened) some at stand = let before : opened ≡ page = omega (arith, at) in omega (arith, stand, ap (λ n. n * per) before)

-- and none before that
none-of : (rows per slots page opened : ℕ) → opened ≡ 0 → page * per + slots ≡ min (opened * per) rows → slots ≡ 0
none-of rows per slots page zero none stand = omega (arith, stand)
none-of rows per slots page (suc opened) none stand = absurd (omega (arith, none))

no-product : (rows columns : ℕ) → rows ≡ 0 → 0 ≡ rows * columns
no-product zero columns none = omega arith
no-product (suc rows) columns none = absurd (omega (arith, none))

module _ (database : DatabaseState) (reader : TableReaderState) (is : IsTableReader database reader) where
  abbrev columns : ℕ
  columns = length (table_at database reader.table).columns

  -- before a page is opened there are no rows, and so no words
  module _ (without : reader.key ≡ None) where
    pub no-rows : reader.slots ≡ 0
    no-rows =
        let none : reader.opened ≡ 0 = subst (λ (key : Option OpenedPageState). MatchOption key (reader.opened ≡ 0) (λ key. (key.table ≡ reader.table) × (0 < reader.opened))) without is.key in
        none-of (length (table_at database reader.table).rows) (rows_per_page columns) reader.slots (page_of reader) reader.opened none is.rows

    pub no-words : ArePageWords database reader []
    no-words = record {
      filled = no-product reader.slots columns no-rows;
      rows = λ slot below. absurd (omega (arith, below, no-rows));
    }

  module _ (key : OpenedPageState) (here : reader.key ≡ Some key) where
    of : (key.table ≡ reader.table) × (0 < reader.opened)
    of = subst (λ (key : Option OpenedPageState). MatchOption key (reader.opened ≡ 0) (λ key. (key.table ≡ reader.table) × (0 < reader.opened))) here is.key

    at-hand : record { table = reader.table; page = page_of reader } ≡ key
    at-hand = let page : page_of reader ≡ key.page = ap page_by here in λ i. record { table = sym of.0 i; page = page i }

    many : page_rows database reader.table (page_of reader) ≡ reader.slots
    many = many-of (length (table_at database reader.table).rows) (rows_per_page columns) reader.slots (page_of reader) reader.opened of.1 is.page is.rows

    -- the key is to a page of the table
    pub has-page : HasPage database key
    has-page =
        let there : page_of reader < table_pages database reader.table = omega (arith, of.1, is.page, is.opened, is.pages) in
        subst (HasPage database) at-hand there

    -- the words are those that the meter lends
    pub page-words : (page : List ℤ) → length page ≡ page_rows database key.table key.page * length (table_at database key.table).columns
        → ((slot : ℕ) → slot < page_rows database key.table key.page → IsRowIn database key.table key.page slot (slot_words page (length (table_at database key.table).columns) slot))
        → ArePageWords database reader page
    page-words page filled lent =
        let own-filled = subst (λ (k : OpenedPageState). length page ≡ page_rows database k.table k.page * length (table_at database k.table).columns) (sym at-hand) filled in
        let own-lent = subst (λ (k : OpenedPageState). (slot : ℕ) → slot < page_rows database k.table k.page → IsRowIn database k.table k.page slot (slot_words page (length (table_at database k.table).columns) slot)) (sym at-hand) lent in
        record {
          filled = own-filled ∙ ap (λ n. n * columns) many;
          rows = λ slot below. own-lent slot (omega (arith, below, many));
        }

    -- and the marks those that it tells
    pub page-marks : (marks : PageMarksState) → marks ≡ marks_on database key → marks ≡ marks_at_hand database reader
    page-marks marks are = are ∙ ap (marks_on database) (sym at-hand) ∙ ap (λ n. record (marks_at_hand database reader) { rows = n }) many

-- they stay so while rows of the page are looked at
pub same-page : (database : DatabaseState) (old new : TableReaderState) (page : List ℤ) → ArePageWords database old page → new ≡ record old { slot = new.slot } → ArePageWords database new page
same-page database old new page words moves = subst (λ (reader : TableReaderState). ArePageWords database reader page) (sym moves) (record { filled = words.filled; rows = words.rows })

module _ (database : DatabaseState) (own : RelationTree) (relation : IsRelationIn database own) (reader : TableReaderState) (is : IsTableReader database reader) (same : reader.table ≡ own.table)
    (page : List ℤ) (words : ArePageWords database reader page) (some : 0 < reader.slot) (width : ℕ) (is-width : width ≡ length own.columns) where
  wide : length own.columns ≡ length (table_at database reader.table).columns
  wide = ap length relation.fits.columns ∙ length-map (table_at database own.table).columns (λ column. column.kind) ∙ ap (λ t. length (table_at database t).columns) (sym same)

  -- the row that was looked at last is the first of those from it on
  pub last-row : (row : List ℤ) → row ≡ slot_words page width (reader.slot - 1) → IsFirstRow database.texts own (table_from database reader (reader.slot - 1)) (table_from database reader reader.slot) row
  last-row row is-row =
      let table = table_at database reader.table in
      let number = row_number (length table.columns) (page_of reader) (reader.slot - 1) in
      let there : number < length table.rows = omega (arith, some, is.slot, is.rows) in
      let next : number + 1 ≡ row_number (length table.columns) (page_of reader) reader.slot = omega (arith, some) in
      let values = get_or table.rows number [] in
      let seen : row ≡ slot_words page (length table.columns) (reader.slot - 1) = is-row ∙ ap (λ n. slot_words page n (reader.slot - 1)) (is-width ∙ wide) in
      first-of database own reader.table values _ _ row relation.fits same
      (drop_more table.rows number [] there ∙ ap (λ i. values ∷ drop i table.rows) next)
      (subst (λ (words : List ℤ). StandsFor database.texts table.columns words values) (sym seen) (words.rows (reader.slot - 1) (omega (arith, some, is.slot))))
