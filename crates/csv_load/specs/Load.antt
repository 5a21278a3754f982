-- The rows of a CSV file, or its first fault.
use Rattle.std.specs.Prelude.{◌≡◌, ◌≢◌, ℕ, ◌==◌, List, [], ◌∷◌, map, length, Option, Some, None, Result, Ok, Err, IfOk, IfErr, OnErr, IsOkAnd, slice_get, if◌then◌else◌}
use Rattle.std.specs.Option.{option_map_or, option_or, option_and_then}
use Rattle.std.specs.List.{zip, enumerate_from, filter_map}
use Rattle.csv.specs.Reading.{records, strip_bom, default_config}
use Rattle.sql_values.specs.declared.column.ColumnDef.{ColumnDef}
use Rattle.sql_values.specs.Stored.{ValueRow}
use Rattle.db_catalog.specs.Batch.{BatchState}
use Rattle.db_catalog.specs.Database.{DatabaseState, table_at, with_rows}
use Rattle.db_catalog.specs.Refused.{append_fault}
use Rattle.db_catalog.specs.declared.fault.DbFault.{DbFault}
use Rattle.db_catalog.specs.declared.fault.DbFault.TheVariants as db
use Rattle.csv_load.specs.declared.fault.LoadFault.{LoadFault}
use Rattle.csv_load.specs.declared.fault.LoadFault.TheVariants.{Header, FieldCount, Limit, NoMemory}
use Rattle.csv_load.specs.Field.{field_fault, field_value}
use Rattle.csv_load.specs.Header.{header_fault}

-- an entry is a list of fields, and a field a list of bytes
abbrev pub Entry : Type 0
Entry = List (List ℕ)

-- what is wrong with the first item that isn't good
abbrev pub first_fault : {A : Type 0} → (A → Option LoadFault) → List A → Option LoadFault
first_fault fault items = slice_get (filter_map fault items) 0

-- what is wrong with entry n: how many fields it has, or one of them, numbered from 1
unfoldable pub entry_fault : List ColumnDef → ℕ → Entry → Option LoadFault
entry_fault columns n fields =
    let found = length fields in
    let wanted = length columns in
    if found == wanted
    then first_fault (λ f. field_fault (record { entry = n; field = f.0 }) f.1.0 f.1.1) (enumerate_from 1 (zip columns fields))
    else Some (FieldCount n found wanted)

-- what is wrong with the entries below a header, which are numbered from 1
unfoldable pub entries_fault : List ColumnDef → List Entry → Option LoadFault
entries_fault columns entries =
    first_fault (λ e. entry_fault columns e.0 e.1) (enumerate_from 1 entries)

-- what is wrong with a file: its header, which is its first entry, or one of the others
abbrev pub file_fault : List ColumnDef → List Entry → Option LoadFault
file_fault columns [] = Some (Header 1)
file_fault columns (header ∷ entries) =
    option_or (header_fault columns header) (entries_fault columns entries)

-- the row of an entry
unfoldable pub entry_row : List ColumnDef → Entry → ValueRow
entry_row columns fields = map (λ f. field_value f.0 f.1) (zip columns fields)

-- the rows of a file: those of the entries below its header
abbrev pub file_rows : List ColumnDef → List Entry → List ValueRow
file_rows columns [] = []
file_rows columns (header ∷ entries) = map (entry_row columns) entries

-- the entries of a file: RFC 4180, without a byte order mark, as the csv crate reads it
abbrev pub entries_of : List ℕ → List Entry
entries_of bytes = records default_config (strip_bom bytes)

-- a limit of the database
abbrev pub limit_of : DbFault → Option LoadFault
limit_of (db.Limit name value) = Some (Limit name value)
limit_of (db.Duplicate name) = None
limit_of db.NoMemory = None

-- the rows that a table gets from a file, or why not: the file's first fault, or else the first limit
unfoldable pub load_due : DatabaseState → ℕ → List ℕ → Result (List ValueRow) LoadFault
load_due database table bytes =
    let columns = (table_at database table).columns in
    let entries = entries_of bytes in
    let rows = file_rows columns entries in
    option_map_or (λ fault. Err fault) (option_or (file_fault columns entries) (option_and_then limit_of (append_fault database table rows))) (Ok rows)

-- rows were appended to this table, and they are so many
pub record Appends (table : ℕ) (old new : DatabaseState) (count : ℕ) (rows : List ValueRow)
    : Type 0 where
  pub appended : new ≡ with_rows old table rows
  pub counted : count ≡ length rows

-- what comes of a file: its rows are appended, or it is refused with the fault that is due and nothing changes; only memory
-- may be wanting besides
pub record Loads (table : ℕ) (bytes : List ℕ) (old new : DatabaseState) (result : Result ℕ LoadFault)
    : Type 0 where
  pub loaded : IfOk result (λ count. IsOkAnd (load_due old table bytes) (λ rows. Appends table old new count rows))
  pub refused : IfErr result (λ fault. fault ≢ NoMemory → load_due old table bytes ≡ Err fault)
  pub unchanged : OnErr result (new ≡ old)

-- a batch for these columns, of just these rows, with none begun
pub record IsBatchOf (of : List ColumnDef) (given : List ValueRow) (batch : BatchState)
    : Type 0 where
  pub columns : batch.columns ≡ of
  pub rows : batch.rows ≡ given
  pub row : batch.row ≡ []
