-- The header of a file: the names of the columns, in their order and in any case.
use Rattle.std.specs.Prelude.{ℕ, suc, ◌+◌, ◌==◌, ◌&&◌, List, [], ◌∷◌, map, length, Option, Some, None, bytes_eq, if◌then◌else◌}
use Rattle.std.specs.Str.{str_to_ascii_uppercase}
use Rattle.sql_values.specs.declared.column.ColumnDef.{ColumnDef}
use Rattle.csv_load.specs.declared.fault.LoadFault.{LoadFault}
use Rattle.csv_load.specs.declared.fault.LoadFault.TheVariants.{Header}

-- the columns' names
abbrev pub names_of : List ColumnDef → List (List ℕ)
names_of columns = map (λ column. column.name) columns

-- how many fields, from the left, are the names at their places
abbrev pub agreeing : List (List ℕ) → List (List ℕ) → ℕ
agreeing [] fields = 0
agreeing (name ∷ names) [] = 0
agreeing (name ∷ names) (field ∷ fields) =
    if bytes_eq (str_to_ascii_uppercase field) name then suc (agreeing names fields) else 0

-- the first field that differs, is missing or is too many, from 1
abbrev pub header_fault : List ColumnDef → List (List ℕ) → Option LoadFault
header_fault columns header =
    let same = agreeing (names_of columns) header in
    if same == length columns && same == length header then None else Some (Header (same + 1))
