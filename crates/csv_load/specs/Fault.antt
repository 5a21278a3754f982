-- When a call gives a fault.
use Rattle.std.specs.Prelude.{◌≡◌, ◌≢◌, Option, Some, None, Result, OnOk, IfErr}
use Rattle.csv_load.specs.declared.fault.LoadFault.{LoadFault}
use Rattle.csv_load.specs.declared.fault.LoadFault.TheVariants.{NoMemory}

-- a call gives the fault that is due, and none where none is; only memory may be wanting besides
pub record GivesFault {T : Type 0} (due : Option LoadFault) (result : Result T LoadFault) : Type 0 where
  pub answered : OnOk result (due ≡ None)
  pub refused : IfErr result (λ fault. fault ≢ NoMemory → due ≡ Some fault)
