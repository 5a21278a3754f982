-- What a call gives where a value or the first fault is due.
use Rattle.std.specs.Prelude.{◌≡◌, ◌≢◌, List, map, Result, Ok, Err, Vec}
use Rattle.std.specs.declared.alloc.Global.{Global}
use Rattle.sql_values.specs.Steps.{Checked}
use Rattle.bouquet_file.specs.declared.fault.OpenFault.{OpenFault}
use Rattle.bouquet_file.specs.declared.fault.OpenFault.TheVariants as fault

-- a call gives what is due, as it is seen, or the fault that is due; out of memory fits anything
abbrev pub GivesChecked : {T A : Type 0} → (view : T → A) → Result T OpenFault → Checked OpenFault A → Type 0
GivesChecked view (Ok value) due = due ≡ Ok (view value)
GivesChecked view (Err why) due = why ≢ fault.NoMemory → due ≡ Err why

-- so it gives a list, each of whose items is seen so
abbrev pub GivesEach : {T A : Type 0} → (view : T → A) → Result (Vec T Global) OpenFault → Checked OpenFault (List A) → Type 0
GivesEach view result due = GivesChecked (λ values. map view values.items) result due
