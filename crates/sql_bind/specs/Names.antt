-- The tables of FROM, and which of their columns a written column names.
use Rattle.std.specs.Prelude.{ℕ, ◌+◌, Bool, true, List, [], ◌∷◌, ◌++◌, Option, Some, None, if◌then◌else◌, option_map, unwrap_or}
use Rattle.std.specs.Option.{option_or}
use Rattle.std.specs.Str.{bytes_eq}
use Rattle.sql_values.specs.declared.column.ColumnDef.{ColumnDef}
use Rattle.sql_bind.specs.Named.{NamedTable}
use Rattle.query_block.specs.declared.edge.ColumnAt.{ColumnAt}
use Rattle.sql_parse.specs.declared.tree.ColRef.{ColRef}
use Rattle.sql_bind.specs.declared.fault.BindFault.{BindFault}
use Rattle.sql_bind.specs.declared.fault.BindFault.TheVariants.{UnknownColumn, Ambiguous}

-- whether a column written with this alias may be one of the table: written without one, it may be of any
abbrev pub may_name : Option (List ℕ) → NamedTable → Bool
may_name None table = true
may_name (Some alias) table = bytes_eq alias table.alias

-- the columns of this name among those of a relation, of which the first has this number
abbrev pub places_among : (relation number : ℕ) → List ColumnDef → (name : List ℕ) → List ColumnAt
places_among relation number [] name = []
places_among relation number (column ∷ columns) name =
    if bytes_eq column.name name
    then record { relation = relation; column = number } ∷ places_among relation (number + 1) columns name
    else places_among relation (number + 1) columns name

-- the columns that a written column names, among tables of which the first is this relation
abbrev pub places_from : (relation : ℕ) → List NamedTable → ColRef → List ColumnAt
places_from relation [] written = []
places_from relation (table ∷ tables) written =
    (if may_name written.alias table then places_among relation 0 table.columns written.column else [])
    ++ places_from (relation + 1) tables written

-- a column as it is written: its alias, if it has one, a dot, and its name
abbrev pub written_name : ColRef → List ℕ
written_name written = unwrap_or (option_map (λ alias. alias ++ 46 ∷ []) written.alias) [] ++ written.column

-- a written column names exactly one of these
abbrev pub named_once : ColRef → List ColumnAt → Option BindFault
named_once written [] = Some (UnknownColumn (written_name written))
named_once written (place ∷ []) = None
named_once written (place ∷ other ∷ more) = Some (Ambiguous written.column)

abbrev pub written_column_fault : List NamedTable → ColRef → Option BindFault
written_column_fault tables written = named_once written (places_from 0 tables written)

abbrev pub the_one : List ColumnAt → Option ColumnAt
the_one (place ∷ []) = Some place
the_one places = None

-- the column that a written column names, where it names exactly one
abbrev pub place_of : List NamedTable → ColRef → Option ColumnAt
place_of tables written = the_one (places_from 0 tables written)

-- the first fault of a list, whose items are numbered from this number on
abbrev pub first_fault_from : {A : Type 0} → (ℕ → A → Option BindFault) → ℕ → List A → Option BindFault
first_fault_from fault number [] = None
first_fault_from fault number (item ∷ items) = option_or (fault number item) (first_fault_from fault (number + 1) items)

-- the same where they aren't numbered
abbrev pub first_fault_among : {A : Type 0} → (A → Option BindFault) → List A → Option BindFault
first_fault_among fault [] = None
first_fault_among fault (item ∷ items) = option_or (fault item) (first_fault_among fault items)
