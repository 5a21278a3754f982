-- The order of points, and the points that are next to one.
use Rattle.std.specs.Prelude.{◌≡◌, ℕ, ◌+◌, ◌≤◌, List, filter, map, nat_lt, slice_index, slice_set}
use Rattle.std.specs.List.{AllZip, range_with_len}
use Rattle.ess_grid.specs.Points.{GridShape}

-- a point is below another one where its level is at most the other's on every axis
abbrev pub PointBelow : List ℕ → List ℕ → Type 0
PointBelow point other = AllZip (λ level higher. level ≤ higher) point other

-- an order of points in which no two are each below the other, and some may not be below one another at all
pub record IsPartialOrder (Below : List ℕ → List ℕ → Type 0) : Type 0 where
  pub reflexive : (point : List ℕ) → Below point point
  pub transitive : (point middle other : List ℕ) → Below point middle → Below middle other → Below point other
  pub antisymmetric : (point other : List ℕ) → Below point other → Below other point → point ≡ other

-- the point that is one level higher on this axis, from 0
abbrev pub next_point : List ℕ → ℕ → List ℕ
next_point point axis = slice_set point axis (slice_index point axis + 1)

-- the points of the grid that are one level higher on one axis
abbrev pub successors : GridShape → (point : List ℕ) → List (List ℕ)
successors grid point =
    map (next_point point) (filter (λ axis. nat_lt (slice_index point axis + 1) grid.levels) (range_with_len 0 grid.axes))
