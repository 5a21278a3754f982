-- What holds of a point by its place in the grid's order, from 0.
use Rattle.std.specs.Prelude.{◌≡◌, ℕ, List, Some}
use Rattle.ess_grid.specs.Points.{GridShape, point_at}

-- it holds of the point at this place
abbrev pub HoldsAt : GridShape → (place : ℕ) → (List ℕ → Type 0) → Type 0
HoldsAt grid place Holds = (point : List ℕ) → point_at grid place ≡ Some point → Holds point
