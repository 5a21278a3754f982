-- When a call refuses: the checks of each, in their order, and the first that fails.
use Rattle.std.specs.Prelude.{◌≡◌, ◌≢◌, ℕ, ◌+◌, ◌*◌, ◌&&◌, nat_le, nat_lt, List, [], ◌∷◌, ◌++◌, length, map, nat_eq, slice_index_or, sum_by, Option, Some, None, Result, OnOk, IfErr, IsErrAnd, IsSomeAnd, MatchResult, if◌then◌else◌}
use Rattle.std.specs.List.{list_any}
use Rattle.std.specs.Option.{option_or}
use Rattle.sql_values.specs.declared.limit.LimitName.{LimitName}
use Rattle.sql_values.specs.declared.limit.LimitName.TheVariants as limit
use Rattle.sql_values.specs.declared.column.ColumnType.{ColumnType}
use Rattle.sql_values.specs.declared.column.ColumnType.TheVariants.{Integer, Varchar}
use Rattle.sql_values.specs.declared.column.ColumnDef.{ColumnDef}
use Rattle.sql_values.specs.Limits.{max_tables, max_columns, min_length, max_length, max_rows, max_words, max_texts, max_text_bytes}
use Rattle.sql_values.specs.Dictionary.{has_text, with_texts}
use Rattle.sql_values.specs.Stored.{StoredTable, ValueRow, texts_in}
use Rattle.db_catalog.specs.declared.fault.DbFault.{DbFault}
use Rattle.db_catalog.specs.declared.fault.DbFault.TheVariants.{Duplicate, Limit, NoMemory}
use Rattle.db_catalog.specs.Database.{DatabaseState, table_at}

-- a call is refused with the fault that is due, and otherwise it isn't; only memory may be wanting besides
pub record Refuses {T : Type 0} (due : Option DbFault) (result : Result T DbFault) : Type 0 where
  pub answered : OnOk result (due ≡ None)
  pub refused : IfErr result (λ fault. fault ≢ NoMemory → due ≡ Some fault)

-- a call that takes no memory is refused with the fault that is due, and otherwise it isn't
abbrev pub RefusesExactly : {T : Type 0} → Option DbFault → Result T DbFault → Type 0
RefusesExactly due result = MatchResult result (λ _. due ≡ None) (λ fault. due ≡ Some fault)

-- where a limit is passed, that is the refusal, and never want of memory
abbrev pub TellsLimit : {T : Type 0} → Option DbFault → Result T DbFault → Type 0
TellsLimit due result =
    (name : LimitName) (value : ℕ) → due ≡ Some (Limit name value) → IsErrAnd result (λ fault. fault ≡ Limit name value)

-- a fault is told as it is; only for the name that stands already may memory be wanting
abbrev pub IsTold : DbFault → DbFault → Type 0
IsTold (Duplicate name) fault = fault ≢ NoMemory → fault ≡ Duplicate name
IsTold (Limit name value) fault = fault ≡ Limit name value
IsTold NoMemory fault = fault ≡ NoMemory

-- a check is refused exactly where a fault is due, and tells it
abbrev pub RefusesWhereDue : {T : Type 0} → Option DbFault → Result T DbFault → Type 0
RefusesWhereDue due result = MatchResult result (λ _. due ≡ None) (λ fault. IsSomeAnd due (λ one. IsTold one fault))

-- a number past its limit
abbrev pub past : LimitName → ℕ → ℕ → Option DbFault
past name most value = if nat_lt most value then Some (Limit name value) else None

-- a name that stands already
abbrev pub taken : List (List ℕ) → List ℕ → Option DbFault
taken names name = if has_text names name then Some (Duplicate name) else None

-- the length of a column's texts
abbrev pub length_fault : ColumnType → Option DbFault
length_fault Integer = None
length_fault (Varchar n) =
    if nat_le min_length n && nat_le n max_length then None else Some (Limit limit.Length n)

-- a column: its name, among those before it, then its length
abbrev pub column_fault : List (List ℕ) → ColumnDef → Option DbFault
column_fault before column = option_or (taken before column.name) (length_fault column.kind)

-- columns from left to right
abbrev pub columns_fault : List (List ℕ) → List ColumnDef → Option DbFault
columns_fault before [] = None
columns_fault before (column ∷ columns) =
    option_or (column_fault before column) (columns_fault (before ++ column.name ∷ []) columns)

-- a new table: how many tables there are, its name, how many columns it has, the columns
abbrev pub creation_fault : DatabaseState → List ℕ → List ColumnDef → Option DbFault
creation_fault database name columns =
    option_or (past limit.Tables max_tables (length database.tables + 1))
    (option_or (taken (map (λ table. table.name) database.tables) name)
    (option_or (past limit.Columns max_columns (length columns)) (columns_fault [] columns)))

-- a column of these that is among the indexed ones: the refusal has its name
abbrev pub indexed_fault : List ColumnDef → (indexed : List ℕ) → (column : ℕ) → Option DbFault
indexed_fault columns indexed column =
    if list_any (nat_eq column) indexed
    then Some (Duplicate (slice_index_or (map (λ column. column.name) columns) column []))
    else None

-- an index more: its name, then its column
abbrev pub index_fault : DatabaseState → List ℕ → (number column : ℕ) → Option DbFault
index_fault database name number column =
    let table = table_at database number in
    option_or (taken database.index_names name) (indexed_fault table.columns table.indexed column)

-- how many words stand in tables
abbrev pub words_in : List StoredTable → ℕ
words_in tables = sum_by (λ table. length table.rows * length table.columns) tables

-- a dictionary: how many texts there are, then how many bytes
abbrev pub texts_fault : List (List ℕ) → Option DbFault
texts_fault texts =
    option_or (past limit.Texts max_texts (length texts))
    (past limit.TextBytes max_text_bytes (sum_by length texts))

-- so many rows more: the table's rows, then the words of all tables, each as it would be then
abbrev pub room_fault : DatabaseState → ℕ → ℕ → Option DbFault
room_fault database number rows =
    let table = table_at database number in
    option_or (past limit.Rows max_rows (length table.rows + rows))
    (past limit.Words max_words (words_in database.tables + rows * length table.columns))

-- more rows: room for them, then the dictionary that there would be
abbrev pub append_fault : DatabaseState → ℕ → List ValueRow → Option DbFault
append_fault database number rows =
    option_or (room_fault database number (length rows))
    (texts_fault (with_texts database.texts (texts_in rows)))
