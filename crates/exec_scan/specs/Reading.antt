-- What is left to read of a relation's rows on each of the two ways to them, and what is always so of a way.
use Rattle.std.specs.Prelude.{◌≡◌, ℕ, ℤ, ◌+◌, ◌*◌, Bool, List, [], ◌∷◌, Option, Some, None, MatchOption, Result, IfOk, length, map, filter}
use Rattle.std.specs.List.Sorted.{IsPermutation}
use Rattle.work_ledger.specs.Charges.{entry_charge, fetch_charge, node_charge, open_charge}
use Rattle.sql_values.specs.Stored.{StoredTable, ValueRow, values_of}
use Rattle.query_block.specs.Blocks.{IsRelation, RelationTree}
use Rattle.query_block.specs.Meaning.{meets_filter}
use Rattle.row_filter.specs.InLists.{IsFilterRecheck}
use Rattle.row_filter.specs.RowFilters.{IsFilterOf}
use Rattle.row_filter.specs.declared.recheck.FilterRecheck.{FilterRecheck}
use Rattle.plan_tree.specs.Usable.{is_fixed_usable}
use Rattle.plan_tree.specs.Work.{index_scan_work, scan_work, table_rows}
use Rattle.plan_tree.specs.Left.{Left}
use Rattle.btree_index.specs.declared.index.Cursor.{Cursor}
use Rattle.btree_index.specs.Entries.{IndexEntry}
use Rattle.db_catalog.specs.Database.{DatabaseState}
use Rattle.db_catalog.specs.Fits.{FitsTable}
use Rattle.db_catalog.specs.Indexes.{index_at, index_height, row_of_entry}
use Rattle.db_catalog.specs.Meter.{MeterState}
use Rattle.db_catalog.specs.ColumnRanges.{AreStored}
use Rattle.exec_scan.specs.declared.way.Way.{Way}
use Rattle.exec_scan.specs.declared.way.Way.TheVariants as way
use Rattle.exec_scan.specs.declared.table_way.TableWay.{TableWay}
use Rattle.exec_scan.specs.EntryReading.{EntryReaderState, IsReaderOf, entries_at}
use Rattle.exec_scan.specs.NextMarks.{AreNextMarks}
use Rattle.exec_scan.specs.TableReading.{IsTableReader, TableReaderState, table_ahead, table_due}

-- the table whose rows are read
abbrev pub table_of : Way → ℕ
table_of (way.Table table) = table.reader.table
table_of (way.Index reader) = reader.table

-- the column by whose index they are found, if they are
abbrev pub column_of : Way → Option ℕ
column_of (way.Table table) = None
column_of (way.Index reader) = Some reader.column

-- whether a row meets every conjunct of the filter that has no parameter and that an index on the column can use
abbrev pub is_wanted : RelationTree → (column : ℕ) → ValueRow → Bool
is_wanted own column row = meets_filter (filter (is_fixed_usable own.columns column) own.filter) row

-- of the entries of an index those that are still to be read: before the descent the wanted ones, then those ahead
abbrev pub entries_to_read : (IndexEntry → Bool) → List IndexEntry → Option Cursor → List IndexEntry
entries_to_read wanted entries None = filter wanted entries
entries_to_read wanted entries (Some cursor) = entries_at entries (Some cursor)

abbrev pub wanted_entries : DatabaseState → RelationTree → EntryReaderState → List IndexEntry
wanted_entries database own reader =
    entries_to_read (λ entry. is_wanted own reader.column (row_of_entry database reader.table entry))
    (index_at database reader.table reader.column) reader.cursor

-- their rows
abbrev pub wanted_rows : DatabaseState → RelationTree → EntryReaderState → List ValueRow
wanted_rows database own reader = map (row_of_entry database reader.table) (wanted_entries database own reader)

-- the work of the descent, if it isn't made yet
abbrev pub descent_due : (height : ℕ) → Option Cursor → ℕ
descent_due height None = node_charge * height
descent_due height (Some cursor) = 0

-- what reading them has left: no row comes of it alone; that of the descent is due, and each entry and its row
abbrev pub wanted_due : DatabaseState → RelationTree → EntryReaderState → Left
wanted_due database own reader = record {
  rest = [];
  due = descent_due (index_height database reader.table reader.column) reader.cursor
      + (entry_charge + fetch_charge) * length (wanted_entries database own reader);
}

-- what reading the rows of the relation has left
abbrev pub read_due : DatabaseState → RelationTree → Way → Left
read_due database own (way.Table table) = table_due database table.reader
read_due database own (way.Index reader) = wanted_due database own reader

-- the rows of its table ahead that meet its filter
abbrev pub kept_ahead : DatabaseState → RelationTree → TableReaderState → List ValueRow
kept_ahead database own reader = filter (meets_filter own.filter) (table_ahead database reader)

-- of the rows that aren't read yet those that meet it
abbrev pub kept_rows : DatabaseState → RelationTree → Way → List ValueRow
kept_rows database own (way.Table table) = kept_ahead database own table.reader
kept_rows database own (way.Index reader) = filter (meets_filter own.filter) (wanted_rows database own reader)

-- the reader stands in its table; the filter is that of the relation, made ready, and the marks of the rows ahead are by it
pub record IsTableWay (database : DatabaseState) (own : RelationTree) (table : TableWay) : Type 0 where
  pub reader : IsTableReader database table.reader
  pub filter : IsFilterOf database own.table own.filter table.filter
  pub next : AreNextMarks database own.filter table.filter.exact table.reader table.next

-- it stands so, or in its index
abbrev pub IsWayIn : DatabaseState → RelationTree → Way → Type 0
IsWayIn database own (way.Table table) = IsTableWay database own table
IsWayIn database own (way.Index reader) = IsReaderOf database reader

-- a relation of a block, whose table is in the database and whose filter has no parameter
pub record IsRelationIn (database : DatabaseState) (own : RelationTree) : Type 0 where
  pub allowed : IsRelation [] own
  pub fits : FitsTable database own

-- a way to the rows of this relation, and what it knows of those that meet the filter
pub record IsWayTo (database : DatabaseState) (own : RelationTree) (way : Way) : Type 0 where
  pub relation : IsRelationIn database own
  pub table : table_of way ≡ own.table
  pub reading : IsWayIn database own way

-- the filter of the relation, made ready for rows of its table
abbrev pub IsRecheckOf : DatabaseState → RelationTree → FilterRecheck → Type 0
IsRecheckOf database own recheck = IsFilterRecheck database.texts own.columns own.filter recheck

-- the words are those of the first of these rows, which then isn't one of them
pub record IsFirstRow (texts : List (List ℕ)) (own : RelationTree) (old new : List ValueRow) (words : List ℤ) : Type 0 where
  pub are : AreStored texts own.columns words
  pub first : old ≡ values_of texts own.columns words ∷ new

-- a call lends the first of these rows; or there were none, there are none, and nothing is due
abbrev pub LendsFirst : {T E : Type 0} → (texts : List (List ℕ)) → RelationTree → (old new : List ValueRow) → Left → Result (Option T) E → (words_of : T → List ℤ) → Type 0
LendsFirst texts own old new left result words_of =
    IfOk result (λ found.
    MatchOption found ((old ≡ []) × (new ≡ []) × (left.due ≡ 0)) (λ lent. IsFirstRow texts own old new (words_of lent)))

-- so it lends the first of the rows ahead on a way that meet the filter
abbrev pub LendsKept : {T E : Type 0} → MeterState → RelationTree → (old new : Way) → Result (Option T) E → (words_of : T → List ℤ) → Type 0
LendsKept meter own old new result words_of =
    let rows = kept_rows meter.database own in
    LendsFirst meter.database.texts own (rows old) (rows new) (read_due meter.database own new) result words_of

-- the work of the scan of a relation by the index on a column, or of its table, that gives so many rows
abbrev pub work_by : List StoredTable → RelationTree → Option ℕ → (out : ℕ) → ℕ
work_by tables own None out = scan_work tables own out
work_by tables own (Some column) out = index_scan_work tables own column out

-- nothing is read yet: the rows that are kept are those of the table, in some order, and what is due makes the leaf's work
-- with what it costs to open it and to give these rows
pub record HasAll (database : DatabaseState) (own : RelationTree) (way : Way) : Type 0 where
  pub rows : IsPermutation (kept_rows database own way) (filter (meets_filter own.filter) (table_rows database.tables own))
  pub due : (out : ℕ) → open_charge + (read_due database own way).due + out ≡ work_by database.tables own (column_of way) out

-- a way to the rows of this relation by a column or its table, on which nothing is read yet
pub record LeadsTo (database : DatabaseState) (own : RelationTree) (by : Option ℕ) (found : Way) : Type 0 where
  pub way : IsWayTo database own found
  pub column : column_of found ≡ by
  pub all : HasAll database own found

-- it leads on to the rows of this relation, by the same column or its table
pub record FindsOn (database : DatabaseState) (own : RelationTree) (old new : Way) : Type 0 where
  pub way : IsWayTo database own new
  pub column : column_of new ≡ column_of old
