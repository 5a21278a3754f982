-- The entries that a scan by an index has to read: those of the rows that meet every conjunct that the index can use.
use Rattle.std.proofs.Common.{◌≡◌, ℕ, ℤ, ◌*◌, Bool, List, [], ◌∷◌, filter, map, length, Option, Some, None, IsSome, refl, sym, ap, subst, ◌∙◌, arith}
use Rattle.sql_values.specs.Stored.{StandsFor}
use Rattle.query_block.specs.Blocks.{RelationTree}
use Rattle.plan_tree.specs.Usable.{is_fixed_usable}
use Rattle.plan_tree.specs.declared.range.WordRange.{WordRange}
use Rattle.plan_tree.specs.Ranges.{Finds}
use Rattle.btree_index.specs.declared.index.Cursor.{Cursor}
use Rattle.btree_index.specs.Entries.{IndexEntry, HaveWords, is_within}
use Rattle.db_catalog.specs.Database.{DatabaseState, StandAsWords, table_at}
use Rattle.db_catalog.specs.Fits.{FitsTable}
use Rattle.db_catalog.specs.Indexes.{index_at, index_height, row_of_entry}
use Rattle.db_catalog.proofs.Picked.{in-range}
use Rattle.exec_scan.specs.EntryReading.{EntryReaderState, ReadsEntry, entries_ahead, entries_at}
use Rattle.exec_scan.specs.Reading.{IsFirstRow, descent_due, entries_to_read, is_wanted, wanted_due, wanted_entries, wanted_rows}
use Rattle.exec_scan.proofs.Relations.{first-of}

-- a cursor is there or not
none-of : (cursor : Option Cursor) → (IsSome cursor → ⊥) → cursor ≡ None
none-of None none = refl
none-of (Some cursor) none = absurd (none refl)

some-of : (cursor : Option Cursor) → IsSome cursor → (c : Cursor) × (cursor ≡ Some c)
some-of None some = cc
some-of (Some cursor) some = (cursor, refl)

-- before the descent its work is due, and none after it
pub descent-ahead : (height : ℕ) (cursor : Option Cursor) → (IsSome cursor → ⊥) → descent_due height cursor ≡ 2 * height
descent-ahead height cursor none = ap (descent_due height) (none-of cursor none)

pub descent-done : (height : ℕ) (cursor : Option Cursor) → IsSome cursor → descent_due height cursor ≡ 0
descent-done height cursor some = ap (descent_due height) (some-of cursor some).1

module _ (database : DatabaseState) (own : RelationTree) (fits : FitsTable database own) where
  abbrev wanted : (table column : ℕ) → IndexEntry → Bool
  wanted table column entry = is_wanted own column (row_of_entry database table entry)

  ahead : (reader : EntryReaderState) → IsSome reader.cursor → wanted_entries database own reader ≡ entries_ahead database reader
  ahead reader some =
      let index = index_at database reader.table reader.column in
      let is = (some-of reader.cursor some).1 in
      ap (entries_to_read (wanted reader.table reader.column) index) is ∙ ap (entries_at index) (sym is)

  -- so the descent leads to the entries that have to be read
  pub descended : (old new : EntryReaderState) (range : WordRange) → old.table ≡ own.table → (IsSome old.cursor → ⊥) → IsSome new.cursor
      → Finds database.texts own.columns old.column range (filter (is_fixed_usable own.columns old.column) own.filter)
      → HaveWords (index_at database old.table old.column) → StandAsWords database old.table
      → entries_ahead database new ≡ filter (is_within range.from range.to) (index_at database old.table old.column)
      → wanted_entries database own new ≡ wanted_entries database own old
  descended old new range table none some finds words stand led =
      ahead new some ∙ led
      ∙ subst (λ (t : ℕ). HaveWords (index_at database t old.column) → StandAsWords database t
      → filter (is_within range.from range.to) (index_at database t old.column) ≡ filter (wanted t old.column) (index_at database t old.column)) (sym table)
      (in-range database own fits old.column range.from range.to (is_wanted own old.column) finds) words stand
      ∙ ap (entries_to_read (wanted old.table old.column) (index_at database old.table old.column)) (sym (none-of old.cursor none))

  -- then one entry after another is read
  module _ (old mid new : EntryReaderState) (table : old.table ≡ own.table) (same : wanted_entries database own mid ≡ wanted_entries database own old) (before : mid ≡ record old { cursor = mid.cursor })
      (moves : new ≡ record mid { cursor = new.cursor }) (some : IsSome mid.cursor) (still : IsSome new.cursor) where
    table-mid : mid.table ≡ old.table
    table-mid = ap (λ (reader : EntryReaderState). reader.table) before

    table-new : new.table ≡ old.table
    table-new = ap (λ (reader : EntryReaderState). reader.table) moves ∙ table-mid

    rows-old : wanted_rows database own old ≡ map (row_of_entry database old.table) (entries_ahead database mid)
    rows-old = ap (map (row_of_entry database old.table)) (sym same ∙ ahead mid some)

    rows-new : wanted_rows database own new ≡ map (row_of_entry database old.table) (entries_ahead database new)
    rows-new = ap (map (row_of_entry database new.table)) (ahead new still) ∙ ap (λ (t : ℕ). map (row_of_entry database t) (entries_ahead database new)) table-new

    pub none-read : (entries_ahead database new ≡ []) × (new ≡ mid) → (wanted_rows database own old ≡ []) × (wanted_rows database own new ≡ []) × ((wanted_due database own new).due ≡ 0)
    none-read (ended, is) = (
      rows-old ∙ ap (λ (reader : EntryReaderState). map (row_of_entry database old.table) (entries_ahead database reader)) (sym is) ∙ ap (map (row_of_entry database old.table)) ended,
      rows-new ∙ ap (map (row_of_entry database old.table)) ended,
      omega (arith, descent-done (index_height database new.table new.column) new.cursor still, ap length (ahead new still ∙ ended)),
    )

    pub first-read : (words : List ℤ) → ReadsEntry database mid new words → IsFirstRow database.texts own (wanted_rows database own old) (wanted_rows database own new) words
    first-read words reads =
        let row = row_of_entry database old.table reads.0 in
        first-of database own old.table row (wanted_rows database own old) (wanted_rows database own new) words fits table
        (rows-old ∙ ap (map (row_of_entry database old.table)) reads.1 ∙ ap (λ rows. row ∷ rows) (sym rows-new))
        (subst (λ (t : ℕ). StandsFor database.texts (table_at database t).columns words (row_of_entry database t reads.0)) table-mid reads.2)
