-- What is seen of a reader of rows by the entries of an index, what it has left to read, and what is always so of it.
use Rattle.std.specs.Prelude.{◌≡◌, ℕ, ℤ, ◌+◌, ◌*◌, ◌<◌, List, [], ◌∷◌, Contains, Option, Some, None, IsSome, MatchOption, Result, IfOk, OnOk, OnErr, filter, length}
use Rattle.sql_values.specs.Stored.{StandsFor}
use Rattle.work_ledger.specs.Charges.{entry_charge, fetch_charge}
use Rattle.btree_index.specs.declared.index.Cursor.{Cursor}
use Rattle.btree_index.specs.Entries.{IndexEntry, IsOn, entries_left, is_within}
use Rattle.db_catalog.specs.Database.{DatabaseState, table_at}
use Rattle.db_catalog.specs.Indexes.{index_at, row_of_entry}
use Rattle.db_catalog.specs.Meter.{MeterState}
use Rattle.exec_scan.specs.Stepping.{PaysFor}

-- the table, the column by whose index it reads, and where it is among the entries, once it has descended to them
pub record EntryReaderState : Type 0 where
  pub table : ℕ
  pub column : ℕ
  pub cursor : Option Cursor

-- the table is there and has an index on the column, on whose entries the cursor stands
pub record IsReaderOf (database : DatabaseState) (reader : EntryReaderState) : Type 0 where
  pub there : reader.table < length database.tables
  pub indexed : Contains (table_at database reader.table).indexed reader.column
  pub cursor : MatchOption reader.cursor (Unit {0}) (λ cursor. IsOn (index_at database reader.table reader.column) cursor)

-- the entries that a cursor has yet to give; without one there are none
abbrev pub entries_at : List IndexEntry → Option Cursor → List IndexEntry
entries_at entries None = []
entries_at entries (Some cursor) = entries_left entries cursor

-- the entries that aren't read yet
abbrev pub entries_ahead : DatabaseState → EntryReaderState → List IndexEntry
entries_ahead database reader = entries_at (index_at database reader.table reader.column) reader.cursor

-- the words are those of the row of the first entry ahead, which then is no longer ahead
abbrev pub ReadsEntry : DatabaseState → (old new : EntryReaderState) → List ℤ → Type 0
ReadsEntry database old new words =
    (entry : IndexEntry) × (entries_ahead database old ≡ entry ∷ entries_ahead database new)
    × StandsFor database.texts (table_at database old.table).columns words (row_of_entry database old.table entry)

-- it reads on in its index: only where it is among the entries changes, and once it has descended it stands among them
pub record ReadsOn (database : DatabaseState) (old new : EntryReaderState) : Type 0 where
  pub moves : new ≡ record old { cursor = new.cursor }
  pub descended : IsSome old.cursor → IsSome new.cursor
  pub index : IsReaderOf database new

-- it has come to exactly the entries with words of a range; or it is refused, and nothing changes. It reads on in its index
pub record Descends {T E : Type 0} (database : DatabaseState) (from to : ℤ) (old new : EntryReaderState) (result : Result T E) : Type 0 where
  pub entries : OnOk result (entries_ahead database new ≡ filter (is_within from to) (index_at database old.table old.column))
  pub descended : OnOk result (IsSome new.cursor)
  pub unchanged : OnErr result (new ≡ old)
  pub goes_on : ReadsOn database old new

-- the row of the first entry ahead is lent, or there is none, and nothing changes; each entry and its row is paid for. Whatever
-- the answer, the reader reads on in its index
pub record ReadsNext {T E : Type 0} (old new : EntryReaderState) (before after : MeterState) (result : Result (Option T) E) (words_of : T → List ℤ) : Type 0 where
  pub row : IfOk result (λ found.
      MatchOption found ((entries_ahead before.database new ≡ []) × (new ≡ old)) (λ lent. ReadsEntry before.database old new (words_of lent)))
  pub pays : PaysFor (λ reader. record { rest = []; due = (entry_charge + fetch_charge) * length (entries_ahead before.database reader) })
      old new before after result
  pub goes_on : ReadsOn before.database old new
