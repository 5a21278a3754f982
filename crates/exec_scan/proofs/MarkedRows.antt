-- Rows that are passed by their marks, and the row that is found by them.
use Rattle.std.proofs.Common.{◌≡◌, ℕ, ℤ, zero, suc, ◌+◌, ◌-◌, ◌*◌, ◌<◌, ◌≤◌, Bool, true, false, IsTrue, cond, List, [], ◌∷◌, drop, filter, length, map, max, take, refl, sym, ap, subst, ◌∙◌, arith}
use Rattle.std.specs.Prelude.{slice_index_or}
use Rattle.std.proofs.lemmas.Bool.{false_from_ne_true, true≢false}
use Rattle.std.proofs.lemmas.List.{drop-drop}
use Rattle.sql_values.specs.Stored.{ValueRow, values_of}
use Rattle.query_block.specs.Blocks.{RelationTree}
use Rattle.query_block.specs.Conditions.{FilterTree}
use Rattle.query_block.specs.Meaning.{meets_filter}
use Rattle.query_block.specs.Parameters.{fixed_of}
use Rattle.narrow_columns.specs.Marks.{marks_of}
use Rattle.heap_pages.specs.Rows.{row_number, rows_per_page}
use Rattle.heap_pages.specs.Spans.{rows_of_span}
use Rattle.heap_pages.specs.declared.spans.RowSpan.{RowSpan}
use Rattle.row_filter.specs.RowFilters.{AreMarks, FilterRanges, IsFilterOf}
use Rattle.db_catalog.specs.Database.{DatabaseState, table_at}
use Rattle.db_catalog.specs.Opened.{PageMarksState}
use Rattle.exec_scan.specs.declared.marks.NextMarks.{NextMarks}
use Rattle.exec_scan.specs.NextMarks.{AreNextMarks, IsFirstMarked}
use Rattle.exec_scan.specs.Reading.{IsFirstRow, kept_ahead}
use Rattle.exec_scan.specs.TableReading.{TableReaderState, marks_at_hand, page_of, table_ahead, table_from}
use Rattle.exec_scan.specs.TableWays.{LooksUpTo}
use Rattle.exec_scan.proofs.Relations.{first-kept}

-- ---- rows, marked by a test that no row fails that is to be kept
module _ (test keeps : ValueRow → Bool) (none_missed : (row : ValueRow) → keeps row ≡ true → test row ≡ true) where
  not-kept : (row : ValueRow) → test row ≡ false → keeps row ≡ false
  not-kept row fails = false_from_ne_true (keeps row) (λ is. true≢false (sym (none_missed row is) ∙ fails))

  one-less : (row : ValueRow) (rows : List ValueRow) → test row ≡ false → filter keeps (row ∷ rows) ≡ filter keeps rows
  one-less row rows fails = ap (λ b. cond b (row ∷ filter keeps rows) (filter keeps rows)) (not-kept row fails)

  unset : (mark : Bool) (more : ℕ) → cond mark 1 0 + 2 * more ≡ 0 → (mark ≡ false) × (more ≡ 0)
  unset true more is = absurd (omega (arith, is))
  unset false more is = (refl, omega (arith, is))

  none-marked : (n : ℕ) (rows : List ValueRow) → marks_of (map test (take n rows)) ≡ 0 → filter keeps (drop n rows) ≡ filter keeps rows
  none-marked zero rows none = refl
  none-marked (suc n) [] none = refl
  none-marked (suc n) (row ∷ rows) none =
      let (fails, more) = unset (test row) (marks_of (map test (take n rows))) none in
      none-marked n rows more ∙ sym (one-less row rows fails)

  up-to : (before n : ℕ) (rows : List ValueRow) → before < length (map test (take n rows))
      → ((row : ℕ) → row < before → slice_index_or (map test (take n rows)) row false ≡ false) → filter keeps (drop before rows) ≡ filter keeps rows
  up-to zero n rows there unmarked = refl
  up-to (suc before) zero rows there unmarked = absurd (omega (arith, there))
  up-to (suc before) (suc n) [] there unmarked = absurd (omega (arith, there))
  up-to (suc before) (suc n) (row ∷ rows) there unmarked =
      up-to before n rows (omega (arith, there)) (λ place below. unmarked (suc place) (omega (arith, below)))
      ∙ sym (one-less row rows (unmarked 0 (omega arith)))

  the-marked : (before n : ℕ) (rows : List ValueRow) → before < length (map test (take n rows)) → slice_index_or (map test (take n rows)) before false ≡ true
      → test (slice_index_or (drop before rows) 0 []) ≡ true
  the-marked before zero rows there marked = absurd (omega (arith, there))
  the-marked before (suc n) [] there marked = absurd (omega (arith, there))
  the-marked zero (suc n) (row ∷ rows) there marked = marked
  the-marked (suc before) (suc n) (row ∷ rows) there marked = the-marked before n rows (omega (arith, there)) marked

  few : (n : ℕ) (rows : List ValueRow) → length (map test (take n rows)) ≤ n
  few zero rows = omega arith
  few (suc n) [] = omega arith
  few (suc n) (row ∷ rows) = let less = few n rows in omega (arith, less)

  behind : (k n : ℕ) (rows : List ValueRow) → drop k (map test (take n rows)) ≡ map test (take (n - k) (drop k rows))
  behind zero n rows = let same : n ≡ n - 0 = omega arith in ap (λ n. map test (take n rows)) same
  behind (suc k) zero rows = let same : 0 ≡ 0 - suc k = omega arith in ap (λ n. map test (take n (drop (suc k) rows))) same
  behind (suc k) (suc n) [] = none (suc n - suc k)
    where
      none : (m : ℕ) → [] ≡ map test (take m [])
      none zero = refl
      none (suc m) = refl
  behind (suc k) (suc n) (row ∷ rows) = let same : n - k ≡ suc n - suc k = omega arith in behind k n rows ∙ ap (λ n. map test (take n (drop k rows))) same

-- ---- the rows of a table, on a page
further : (database : DatabaseState) (reader : TableReaderState) (slot more : ℕ) → drop more (table_from database reader slot) ≡ table_from database reader (slot + more)
further database reader slot more =
    let table = table_at database reader.table in
    let per = rows_per_page (length table.columns) in
    let same : page_of reader * per + slot + more ≡ page_of reader * per + (slot + more) = omega arith in
    drop-drop more (page_of reader * per + slot) table.rows ∙ ap (λ n. drop n table.rows) same

module _ (database : DatabaseState) (own : RelationTree) (closed : fixed_of own.filter ≡ own.filter) (exact : Bool) (reader : TableReaderState) (next : NextMarks)
    (is : AreNextMarks database own.filter exact reader next) where
  abbrev test : ValueRow → Bool
  test = is.marks.test

  abbrev keeps : ValueRow → Bool
  keeps = meets_filter own.filter

  abbrev count : ℕ
  count = next.end - reader.slot

  none_missed : (row : ValueRow) → keeps row ≡ true → test row ≡ true
  none_missed row meets = is.marks.none_missed row (ap (λ trees. meets_filter trees row) closed ∙ meets)

  -- rows without a mark are passed
  pub passed : (new : TableReaderState) → new ≡ record reader { slot = max reader.slot next.end } → next.marks ≡ 0 → kept_ahead database own new ≡ kept_ahead database own reader
  passed new moved none =
      let at : max reader.slot next.end ≡ reader.slot + count = omega arith in
      ap (kept_ahead database own) moved
      ∙ ap (λ slot. filter keeps (table_from database reader slot)) at
      ∙ ap (filter keeps) (sym (further database reader reader.slot count))
      ∙ none-marked test keeps none_missed count (table_ahead database reader) (sym is.marks.are ∙ none)

  -- up to the first that has one
  module _ (before : ℕ) (first : (rows : List Bool) → next.marks ≡ marks_of rows → IsFirstMarked rows before) where
    marked : IsFirstMarked (map test (take count (table_ahead database reader))) before
    marked = first _ is.marks.are

    pub within : before < count
    within = let less = few test keeps none_missed count (table_ahead database reader) in omega (arith, less, marked.there)

    module _ (new : TableReaderState) (moved : new ≡ record reader { slot = reader.slot + (before + 1) }) where
      pub looks-up-to : LooksUpTo database own exact reader new
      looks-up-to =
          let at : new.slot ≡ reader.slot + (before + 1) = ap (λ (r : TableReaderState). r.slot) moved in
          let last : new.slot - 1 ≡ reader.slot + before = omega (arith, at) in
          let from : table_from database new (new.slot - 1) ≡ drop before (table_ahead database reader) =
          ap (λ (r : TableReaderState). table_from database r (new.slot - 1)) moved ∙ ap (table_from database reader) last ∙ sym (further database reader reader.slot before) in
          record {
            some = omega (arith, at);
            passed = ap (filter keeps) from ∙ up-to test keeps none_missed before count (table_ahead database reader) marked.there marked.unmarked;
            meets = λ told.
                let row = slice_index_or (drop before (table_ahead database reader)) 0 [] in
                ap (λ rows. keeps (slice_index_or rows 0 [])) from
                ∙ sym (is.marks.exact told row ∙ ap (λ trees. meets_filter trees row) closed)
                ∙ the-marked test keeps none_missed before count (table_ahead database reader) marked.there marked.marked;
          }

      -- the marks of the rows behind it
      pub marks-behind : (marks : ℕ) → ((rows : List Bool) → next.marks ≡ marks_of rows → marks ≡ marks_of (drop (before + 1) rows))
          → AreNextMarks database own.filter exact new (record { marks = marks; end = next.end })
      marks-behind marks are =
          let same : count - (before + 1) ≡ next.end - new.slot = omega (arith, ap (λ (r : TableReaderState). r.slot) moved) in
          let from : drop (before + 1) (table_ahead database reader) ≡ table_ahead database new = further database reader reader.slot (before + 1) ∙ ap (table_ahead database) (sym moved) in
          record {
            on_page = omega (arith, is.on_page, ap (λ (r : TableReaderState). r.slots) moved);
            marks = record {
              test = test;
              none_missed = is.marks.none_missed;
              exact = is.marks.exact;
              are = are _ is.marks.are
                  ∙ ap marks_of (behind test keeps none_missed (before + 1) count (table_ahead database reader))
                  ∙ (λ i. marks_of (map test (take (same i) (from i))));
            };
            asked = is.asked;
          }

-- the marks of a block of the rows ahead, as the page's marks tell them
pub block-marks : (database : DatabaseState) (conditions : List FilterTree) (filter : FilterRanges) (reader : TableReaderState) (page : PageMarksState) → page ≡ marks_at_hand database reader
    → (table : ℕ) → table ≡ reader.table → IsFilterOf database table conditions filter → (end : ℕ) (span : RowSpan) → span.first ≡ page.first + reader.slot → span.count ≡ end - reader.slot
    → (marks : ℕ) → ((conditions : List FilterTree) → IsFilterOf page.database table conditions filter → AreMarks conditions filter.exact (rows_of_span span (table_at page.database table).rows) marks)
    → AreMarks conditions filter.exact (take (end - reader.slot) (table_ahead database reader)) marks
block-marks database conditions filter reader page is table same made end span first count marks told =
    let seen : page.database ≡ database = ap (λ (p : PageMarksState). p.database) is in
    let begins : page.first ≡ row_number (length (table_at database reader.table).columns) (page_of reader) 0 = ap (λ (p : PageMarksState). p.first) is in
    let at : span.first ≡ row_number (length (table_at database reader.table).columns) (page_of reader) reader.slot = omega (arith, first, begins) in
    let rows : rows_of_span span (table_at page.database table).rows ≡ take (end - reader.slot) (table_ahead database reader) =
    λ i. take (count i) (drop (at i) (table_at (seen i) (same i)).rows) in
    subst (λ rows. AreMarks conditions filter.exact rows marks) rows
    (told conditions (subst (λ (d : DatabaseState). IsFilterOf d table conditions filter) (sym seen) made))

-- without marks none are to be told
pub no-marks : (database : DatabaseState) (conditions : List FilterTree) (exact : Bool) (reader : TableReaderState) → AreNextMarks database conditions exact reader (record { marks = 0; end = 0 })
no-marks database conditions exact reader =
    let none : 0 ≡ 0 - reader.slot = omega arith in
    record {
      on_page = omega arith;
      marks = record {
        test = meets_filter (fixed_of conditions);
        none_missed = λ row meets. meets;
        exact = λ told row. refl;
        are = ap (λ n. marks_of (map (meets_filter (fixed_of conditions)) (take n (table_ahead database reader)))) none;
      };
      asked = λ empty. refl;
    }

-- the row up to which is looked is the first that is kept, or isn't kept
module _ (database : DatabaseState) (own : RelationTree) (exact : Bool) (old new : TableReaderState) (looks : LooksUpTo database own exact old new) (words : List ℤ)
    (first : IsFirstRow database.texts own (table_from database new (new.slot - 1)) (table_from database new new.slot) words) where
  pub told-row : IsTrue exact → meets_filter own.filter (values_of database.texts own.columns words) ≡ true
  told-row told = ap (λ rows. meets_filter own.filter (slice_index_or rows 0 [])) (sym first.first) ∙ looks.meets told

  pub kept-row : meets_filter own.filter (values_of database.texts own.columns words) ≡ true → IsFirstRow database.texts own (kept_ahead database own old) (kept_ahead database own new) words
  kept-row meets =
      subst (λ (rows : List ValueRow). IsFirstRow database.texts own rows (kept_ahead database own new) words) looks.passed
      (first-kept database.texts own _ _ words first (meets_filter own.filter) meets)

  pub passed-row : meets_filter own.filter (values_of database.texts own.columns words) ≡ false → kept_ahead database own new ≡ kept_ahead database own old
  passed-row fails =
      sym (sym looks.passed ∙ ap (filter (meets_filter own.filter)) first.first
      ∙ ap (λ b. cond b (values_of database.texts own.columns words ∷ kept_ahead database own new) (kept_ahead database own new)) fails)
