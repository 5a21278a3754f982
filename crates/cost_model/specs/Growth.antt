-- What grows with selectivity.
use Rattle.std.specs.Prelude.{ℕ, ◌≤◌, List}
use Rattle.ess_grid.specs.Order.{PointBelow}

-- a number that depends on the point is at no point more than at one above it
abbrev pub IsMonotone : (List ℕ → ℕ) → Type 0
IsMonotone number = (point other : List ℕ) → PointBelow point other → number point ≤ number other
