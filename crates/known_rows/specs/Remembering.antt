-- What is known is not forgotten.
use Rattle.std.specs.Prelude.{ℕ, ◌≤◌}
use Rattle.known_rows.specs.Known.{KnownState, known_entries, known_rows_of}

-- every number that was known before is known after, and none falls
pub record Remembers (old new : KnownState) : Type 0 where
  pub rows : (set : ℕ) → known_rows_of old set ≤ known_rows_of new set
  pub entries : (edge set : ℕ) → known_entries old edge set ≤ known_entries new edge set
