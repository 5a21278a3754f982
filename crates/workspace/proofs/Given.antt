-- The file that is given.
use Rattle.std.proofs.Common.{◌≡◌, ℕ, List, length, true, false, Option, Some, None, ap, arith}
use Rattle.std.specs.Prelude.{Vec, Result, nat_le}
use Rattle.std.specs.declared.alloc.Global.{Global}
use borrow.Author.Tests.{lt-leb, le-leb}
use Rattle.sql_values.specs.Limits.{max_file_bytes}
use Rattle.sql_values.specs.declared.limit.LimitName.TheVariants as limit
use Rattle.workspace.specs.declared.begun.GivenFile.TheVariants as given
use Rattle.workspace.specs.Given.{IsFileGiven, at_file}
use Rattle.workspace.specs.Outcome.{Outcome, Refuses}
use Rattle.workspace.specs.Returns.{ReturnsFree}
use Rattle.workspace.specs.World.{World}
use Rattle.workspace.specs.declared.stop.Stop.{Stop}
use Rattle.workspace.specs.declared.refusal.Refusal.TheVariants as refusal

module _ (name : List ℕ) (go : List ℕ → Outcome) where
  -- it is too long
  pub long_refused : (len : ℕ) (file : Option (List ℕ)) → IsFileGiven file (given.TooLong len) → at_file name go file ≡ Refuses (refusal.PastLimit limit.File len)
  long_refused len None stands = absurd stands.0
  long_refused len (Some bytes) stands =
      let past : nat_le (length bytes) max_file_bytes ≡ false = lt-leb _ _ (omega (arith, stands.0, stands.1)) in
      rw past (ap (λ (n : ℕ). Refuses (refusal.PastLimit limit.File n)) stands.0)

  -- or it has these bytes, and this came of them
  pub with_bytes : (bytes : Vec ℕ Global) (file : Option (List ℕ)) (result : Result (Vec ℕ Global) Stop) (next : World) → IsFileGiven file (given.Bytes bytes) → ReturnsFree (go bytes.items) result next
      → ReturnsFree (at_file name go file) result next
  with_bytes bytes file result next stands returns =
      let within : nat_le (length bytes.items) max_file_bytes ≡ true = le-leb _ _ stands.1 in
      rw (stands.0, within) returns
