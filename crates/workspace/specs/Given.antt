-- The file that is given for a statement, and what comes of it.
use Rattle.std.specs.Prelude.{◌≡◌, ℕ, ◌<◌, ◌≤◌, nat_le, List, length, Option, Some, None, IsSomeAnd, if◌then◌else◌}
use Rattle.sql_values.specs.Limits.{max_file_bytes}
use Rattle.sql_values.specs.declared.limit.LimitName.TheVariants as limit
use Rattle.workspace.specs.declared.begun.GivenFile.{GivenFile}
use Rattle.workspace.specs.declared.begun.GivenFile.TheVariants as given
use Rattle.workspace.specs.declared.refusal.Refusal.TheVariants as refusal
use Rattle.workspace.specs.Outcome.{Outcome, Refuses}

-- what comes of the bytes of a file, if the folder has it and it isn't too long
abbrev pub at_file : (name : List ℕ) → (List ℕ → Outcome) → Option (List ℕ) → Outcome
at_file name go None = Refuses (refusal.AbsentFile name)
at_file name go (Some bytes) =
    if nat_le (length bytes) max_file_bytes then go bytes else Refuses (refusal.PastLimit limit.File (length bytes))

-- a value stands for this file of a folder
abbrev pub IsFileGiven : (file : Option (List ℕ)) → GivenFile → Type 0
IsFileGiven file (given.Bytes bytes) = (file ≡ Some bytes.items) × (length bytes.items ≤ max_file_bytes)
IsFileGiven file given.Absent = file ≡ None
IsFileGiven file (given.TooLong len) = IsSomeAnd file (λ bytes. length bytes ≡ len) × (max_file_bytes < len)
