-- Bytes that are written one part after another.
use Rattle.std.proofs.Common.{◌≡◌, ◌+◌, ◌≤◌, ℕ, List, Option, length, take, drop}
use Rattle.std.proofs.lemmas.Grind.{common_steps}
use Rattle.std.proofs.Common.{arith, length-drop}
use Rattle.std.proofs.Math.Seq.{take-add}
use Rattle.std.specs.Io.KnownBytes.{Appends}
use Rattle.std.proofs.KnownBytes.{Appends-trans}

-- the first so many of the bytes were appended
pub record HasWritten (old new : Option (List ℕ)) (bytes : List ℕ) (written : ℕ) : Type 0 where
  pub within : written ≤ length bytes
  pub appended : Appends old new (take written bytes)

-- one part more, of what is left
pub HasWritten-more : (old mid new : Option (List ℕ)) (bytes rest : List ℕ) (written n : ℕ)
    → HasWritten old mid bytes written → rest ≡ drop written bytes
    → n ≤ length rest → Appends mid new (take n rest)
    → HasWritten old new bytes (written + n)
HasWritten-more old mid new bytes rest written n before is fits more =
    grind (arith, common_steps, length-drop, take-add, Appends-trans)
