-- Where in a file the first fault is: keys and numbers of items, from 1, with dots between.
use Rattle.std.specs.Prelude.{ℕ, List, [], ◌++◌, codes, decimal}
use Rattle.cost_model.specs.Staleness.{count_word}
use Rattle.bouquet_file.specs.declared.fault.FieldPath.{FieldPath}
use Rattle.bouquet_file.specs.declared.fault.FieldPath.TheVariants as path
use Rattle.bouquet_file.specs.declared.fault.OpenFault.{OpenFault}
use Rattle.bouquet_file.specs.declared.fault.OpenFault.TheVariants as fault

abbrev pub relation_path : (number : ℕ) → List ℕ
relation_path number = codes "relations." ++ decimal number

abbrev pub contour_path : (number : ℕ) → List ℕ
contour_path number = codes "contours." ++ decimal number

abbrev pub cost_path : (contour : ℕ) → List ℕ
cost_path contour = contour_path contour ++ codes ".cost"

abbrev pub plans_path : (contour : ℕ) → List ℕ
plans_path contour = contour_path contour ++ codes ".plans"

abbrev pub plan_path : (contour number : ℕ) → List ℕ
plan_path contour number = plans_path contour ++ codes "." ++ decimal number

-- of a value that isn't there or doesn't fit
abbrev pub field_path : FieldPath → List ℕ
field_path path.Bouquet = codes "bouquet"
field_path path.Keys = codes "keys"
field_path path.Query = codes "query"
field_path path.Levels = codes "levels"
field_path path.Threshold = codes "threshold"
field_path path.Relations = codes "relations"
field_path (path.Relation number) = relation_path number
field_path (path.Count number name) = relation_path number ++ codes "." ++ count_word name
field_path path.Contours = codes "contours"
field_path (path.Contour number) = contour_path number
field_path (path.Cost contour) = cost_path contour
field_path (path.Plans contour) = plans_path contour
field_path (path.Plan contour number) = plan_path contour number
field_path path.Parameters = codes "parameters"

-- of a fault; counts that aren't those of the tables, and memory that ran out, have none
abbrev pub fault_path : OpenFault → List ℕ
fault_path fault.NotJson = codes "json"
fault_path (fault.Field path) = field_path path
fault_path (fault.Version found) = codes "version"
fault_path fault.OtherQuery = codes "query"
fault_path (fault.Parameters kept present) = codes "parameters"
fault_path (fault.Stale stale) = []
fault_path (fault.BudgetLimit contour) = cost_path contour
fault_path (fault.NotAPlan contour number) = plan_path contour number
fault_path fault.NoMemory = []
