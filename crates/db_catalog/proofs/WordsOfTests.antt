-- The rows whose word in a column is one of a test's words are those that pass it.
use Rattle.std.proofs.Common.{◌≡◌, ℕ, ◌+◌, ◌<◌, ◌≤◌, Bool, false, List, [], length, map, drop, get_or, FitsSigned, w64, sym, ap, subst, ◌∙◌, arith}
use Rattle.std.specs.Prelude.{count_by, count_ones}
use Rattle.std.proofs.lemmas.List.{ext_get_or, get_or-map, get_or-take, get_or-drop, length-map, length-take, length-drop, get_or_default}
use Rattle.narrow_columns.specs.Marks.{marks_of}
use Rattle.heap_pages.specs.Rows.{HeapState, Row}
use Rattle.heap_pages.specs.Spans.{HaveColumnWords, column_word, has_among, rows_of_span}
use Rattle.heap_pages.specs.declared.spans.RowSpan.{RowSpan}
use Rattle.heap_pages.proofs.MarkedRows.{ones-marks_of}
use Rattle.sql_values.specs.Words.{word_of}
use Rattle.sql_values.specs.Stored.{StoredTable, StandsFor, ValueRow}
use Rattle.db_catalog.specs.declared.column_range.ColumnRange.{ColumnRange}
use Rattle.db_catalog.specs.ColumnRanges.{AreStored}
use Rattle.db_catalog.specs.Database.{DatabaseState, row_at, table_at}
use Rattle.db_catalog.specs.Kept.{IsHeapOf}
use Rattle.db_catalog.specs.Marks.{IsWordsIn}
use Rattle.db_catalog.proofs.OfRelations.{values_by_kind, words_by_kind}
use Rattle.db_catalog.proofs.Tables.{some_at}

same-map : {X Y : Type 0} (p : X → Bool) (q : Y → Bool) (xs : List X) (ys : List Y) (d : X) (e : Y) → length xs ≡ length ys
    → ((i : ℕ) → i < length ys → p (get_or xs i d) ≡ q (get_or ys i e)) → map p xs ≡ map q ys
same-map p q xs ys d e long same =
    ext_get_or false (map p xs) (map q ys) (length-map xs p ∙ long ∙ sym (length-map ys q))
    (λ i below.
    let here : i < length xs = omega (arith, below, length-map xs p) in
    let there : i < length ys = omega (arith, here, long) in
    get_or-map p xs i d false here ∙ same i there ∙ sym (get_or-map q ys i e false there))

module _ (database : DatabaseState) (number : ℕ) (heap : HeapState) (is : IsHeapOf database number heap) (found : ColumnRange) (test : ValueRow → Bool) (words_are : IsWordsIn database number test found) where
  abbrev table : StoredTable
  table = table_at database number

  abbrev among : Row → Bool
  among = has_among found.column found.from found.to

  -- a row of the table passes where the row of words has one of the words
  told : (i : ℕ) → i < length heap.rows → FitsSigned w64 (column_word found.column (get_or heap.rows i [])) → test (row_at table i) ≡ among (get_or heap.rows i [])
  told i below fits =
      let (words, (row, same)) = some_at heap.rows i below in
      let words_is : words ≡ get_or heap.rows i [] = same ∙ get_or_default heap.rows i words [] below in
      let stands : StandsFor database.texts table.columns words (row_at table i) = is.rows i words row in
      let by_kind = values_by_kind database.texts table.columns words in
      let stored : AreStored database.texts (map (λ column. column.kind) table.columns) words = record {
        allowed = words_by_kind database.texts table.columns words stands.allowed;
        by_value = stands.by_value ∙ ap (map (word_of database.texts)) (stands.values ∙ sym by_kind);
      } in
      let tells = words_are.tells words stored (subst (λ w. FitsSigned w64 (column_word found.column w)) (sym words_is) fits) in
      ap test (stands.values ∙ sym by_kind) ∙ sym tells ∙ ap among words_is

  -- so it is of the rows of a span
  module _ (span : RowSpan) (there : span.first + span.count ≤ length table.rows) (fit : HaveColumnWords found.column (rows_of_span span heap.rows)) where
    pub same-marks : map among (rows_of_span span heap.rows) ≡ map test (rows_of_span span table.rows)
    same-marks = sym (same-map test among (rows_of_span span table.rows) (rows_of_span span heap.rows) [] [] long here)
      where
        long : length (rows_of_span span table.rows) ≡ length (rows_of_span span heap.rows)
        long =
            omega (
              arith,
              length-take span.count (drop span.first table.rows),
              length-take span.count (drop span.first heap.rows),
              length-drop span.first table.rows,
              length-drop span.first heap.rows,
              is.count,
            )

        here : (i : ℕ) → i < length (rows_of_span span heap.rows) → test (get_or (rows_of_span span table.rows) i []) ≡ among (get_or (rows_of_span span heap.rows) i [])
        here i below =
            let within : i < span.count = omega (arith, below, length-take span.count (drop span.first heap.rows)) in
            let row : get_or (rows_of_span span heap.rows) i [] ≡ get_or heap.rows (span.first + i) [] =
            get_or-take span.count (drop span.first heap.rows) i [] within ∙ get_or-drop span.first heap.rows i [] in
            ap test (get_or-take span.count (drop span.first table.rows) i [] within ∙ get_or-drop span.first table.rows i [])
            ∙ told (span.first + i) (omega (arith, within, there, is.count)) (subst (λ words. FitsSigned w64 (column_word found.column words)) row (fit i [] below))
            ∙ sym (ap among row)

  -- and of all
  pub same-count : HaveColumnWords found.column heap.rows → count_by among heap.rows ≡ count_by test table.rows
  same-count fit =
      let all : map among heap.rows ≡ map test table.rows = sym (same-map test among table.rows heap.rows [] [] (sym is.count) (λ i below. told i below (fit i [] below))) in
      sym (ones-marks_of among heap.rows) ∙ ap (λ marks. count_ones (marks_of marks)) all ∙ ones-marks_of test table.rows
