-- The line of each refusal.
use Rattle.std.specs.Prelude.{ℕ, List, [], ◌++◌, codes, decimal}
use Rattle.sql_lex.specs.declared.fault.LexFault.{LexFault}
use Rattle.sql_lex.specs.declared.fault.LexKind.{LexKind}
use Rattle.sql_lex.specs.declared.fault.LexKind.TheVariants as token
use Rattle.sql_values.specs.LimitNames.{limit_word}
use Rattle.sql_values.specs.declared.limit.LimitName.{LimitName}
use Rattle.db_catalog.specs.declared.fault.DbFault.{DbFault}
use Rattle.db_catalog.specs.declared.fault.DbFault.TheVariants as change
use Rattle.csv_load.specs.declared.fault.LoadFault.{LoadFault}
use Rattle.csv_load.specs.declared.fault.LoadFault.TheVariants as load
use Rattle.sql_bind.specs.declared.fault.BindFault.{BindFault}
use Rattle.sql_bind.specs.declared.fault.BindFault.TheVariants as bind
use Rattle.query_block.specs.declared.values.ValueFault.{ValueFault}
use Rattle.query_block.specs.declared.values.ValueFault.TheVariants as values
use Rattle.cost_model.specs.declared.stale.Stale.{Stale}
use Rattle.cost_model.specs.Staleness.{count_word}
use Rattle.bouquet_file.specs.declared.fault.OpenFault.{OpenFault}
use Rattle.bouquet_file.specs.declared.fault.OpenFault.TheVariants as opening
use Rattle.bouquet_file.specs.Paths.{fault_path}
use Rattle.workspace.specs.declared.refusal.Refusal.{Refusal}
use Rattle.workspace.specs.declared.refusal.Refusal.TheVariants as refusal

-- `error ` and these words
abbrev pub error_line : List ℕ → List ℕ
error_line words = codes "error " ++ (words ++ codes "\n")

-- a number behind a space
abbrev pub spaced : ℕ → List ℕ
spaced number = codes " " ++ decimal number

-- what is wrong where a token doesn't begin or breaks its limit; out of memory refuses nothing
abbrev pub token_fault_word : LexKind → List ℕ
token_fault_word token.Byte = codes "byte"
token_fault_word token.OpenText = codes "text"
token_fault_word token.Number = codes "number"
token_fault_word token.Name = codes "name"
token_fault_word token.Utf8 = codes "utf8"
token_fault_word token.NoMemory = []

abbrev pub no_token_line : LexFault → List ℕ
no_token_line fault = error_line (codes "E01 " ++ (token_fault_word fault.kind ++ spaced fault.place))

abbrev pub limit_line : LimitName → ℕ → List ℕ
limit_line limit value = error_line (codes "E12 limit " ++ (limit_word limit ++ spaced value))

-- there is no such table
abbrev pub no_table_line : List ℕ → List ℕ
no_table_line name = error_line (codes "E03 table " ++ name)

-- there is no such column
abbrev pub no_column_line : List ℕ → List ℕ
no_column_line name = error_line (codes "E04 column " ++ name)

-- the name stands already
abbrev pub duplicate_line : List ℕ → List ℕ
duplicate_line name = error_line (codes "E06 duplicate " ++ name)

-- a refusal of the database; out of memory refuses nothing
abbrev pub not_made_line : DbFault → List ℕ
not_made_line (change.Duplicate name) = duplicate_line name
not_made_line (change.Limit limit value) = limit_line limit value
not_made_line change.NoMemory = error_line []

abbrev pub field_line : List ℕ → (entry field : ℕ) → List ℕ
field_line kind entry field = error_line (codes "E11 " ++ (kind ++ (spaced entry ++ spaced field)))

abbrev pub fields_line : (entry found wanted : ℕ) → List ℕ
fields_line entry found wanted = error_line (codes "E10 fields" ++ (spaced entry ++ (spaced found ++ spaced wanted)))

-- a file that gives no rows; out of memory refuses nothing
abbrev pub not_loaded_line : LoadFault → List ℕ
not_loaded_line (load.Header field) = error_line (codes "E10 " ++ (codes "header" ++ spaced field))
not_loaded_line (load.FieldCount entry found wanted) = fields_line entry found wanted
not_loaded_line (load.NotUtf8 entry field) = field_line (codes "utf8") entry field
not_loaded_line (load.NotInteger entry field) = field_line (codes "integer") entry field
not_loaded_line (load.OutOfRange entry field) = field_line (codes "range") entry field
not_loaded_line (load.NullInNotNull entry field) = field_line (codes "null") entry field
not_loaded_line (load.TooLong entry field) = field_line (codes "long") entry field
not_loaded_line (load.Limit limit value) = limit_line limit value
not_loaded_line load.NoMemory = error_line []

-- a query that can't be bound; out of memory refuses nothing
abbrev pub not_bound_line : BindFault → List ℕ
not_bound_line (bind.UnknownTable name) = no_table_line name
not_bound_line (bind.UnknownColumn name) = no_column_line name
not_bound_line (bind.Ambiguous name) = error_line (codes "E05 ambiguous " ++ name)
not_bound_line (bind.DuplicateAlias name) = duplicate_line name
not_bound_line (bind.TypeMismatch predicate) = error_line (codes "E07 " ++ (codes "type" ++ spaced predicate))
not_bound_line (bind.PredicateForm conjunct) = error_line (codes "E08 " ++ (codes "predicate" ++ spaced conjunct))
not_bound_line (bind.Limit limit value) = limit_line limit value
not_bound_line bind.NoMemory = error_line []

-- a count that isn't what it was: the relation, the count, what it was, what it is
abbrev pub stale_line : Stale → List ℕ
stale_line stale =
    error_line (codes "E15 stale" ++ (spaced stale.relation ++ (codes " " ++ (count_word stale.count ++ (spaced stale.kept ++ spaced stale.present)))))

-- values that don't fit the parameters: how many there are and how many there have to be, or the place of the first
abbrev pub not_fitting_line : ValueFault → List ℕ
not_fitting_line (values.Count given wanted) = error_line (codes "E17 count" ++ (spaced given ++ spaced wanted))
not_fitting_line (values.Kind place) = error_line (codes "E17 " ++ (codes "kind" ++ spaced place))

-- a file that is no bouquet of the query: where it isn't; out of memory refuses nothing
abbrev pub not_opened_line : OpenFault → List ℕ
not_opened_line (opening.Stale stale) = stale_line stale
not_opened_line fault = error_line (codes "E14 file " ++ fault_path fault)

-- the line that a refusal puts
abbrev pub line_of : Refusal → List ℕ
line_of (refusal.NoToken fault) = no_token_line fault
line_of (refusal.NoStatement place) = error_line (codes "E02 " ++ (codes "syntax" ++ spaced place))
line_of (refusal.NoTable name) = no_table_line name
line_of (refusal.NoColumn name) = no_column_line name
line_of (refusal.NotMade fault) = not_made_line fault
line_of (refusal.NotBound fault) = not_bound_line fault
line_of (refusal.NameTaken name) = duplicate_line name
line_of (refusal.NoBouquet name) = error_line (codes "E13 bouquet " ++ name)
line_of (refusal.IsStale stale) = stale_line stale
line_of (refusal.NotFitting fault) = not_fitting_line fault
line_of (refusal.AbsentFile name) = error_line (codes "E09 absent " ++ name)
line_of (refusal.NotLoaded fault) = not_loaded_line fault
line_of (refusal.NotOpened fault) = not_opened_line fault
line_of (refusal.PastLimit limit value) = limit_line limit value
line_of (refusal.TooManyJobs count) = error_line (codes "E12 limit " ++ (codes "jobs" ++ spaced count))
line_of (refusal.NoTurn number) = error_line (codes "E12 limit " ++ (codes "turn" ++ spaced number))
line_of (refusal.PastWork spent entered) = error_line (codes "E16 " ++ (codes "work" ++ spaced spent))
