-- A run of the demonstration, over a folder of which no call fails.
use Rattle.std.proofs.Common.{◌≡◌, inr, ℕ, List, Option, refl}
use Rattle.demo_data.specs.Demo.{demo_script}
use Rattle.shell.specs.declared.status.Status.TheVariants as status
use Rattle.shell.specs.Serve.{Demonstrates, demo_folder}
use Rattle.shell.proofs.Runs.{serves_nothing}

-- there was no memory for its folder
pub demonstrates_nothing : (max_work number : ℕ) (sink_failed : Type 0) (had : Option (List ℕ)) (paid : ℕ) → paid ≡ 0 → Demonstrates max_work number sink_failed status.NoMemory had had paid
demonstrates_nothing max_work number sink_failed had paid unpaid = record {
  left = demo_folder number;
  serves = serves_nothing max_work ⊥ sink_failed demo_script (demo_folder number) status.NoMemory had paid unpaid (inr refl);
  no_read_failed = refl;
  no_write_failed = refl;
}
