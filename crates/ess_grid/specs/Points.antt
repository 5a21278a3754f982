-- A grid, and its points in order. A point is the list of its levels, that of axis 0 first.
use Rattle.std.specs.Prelude.{◌≡◌, ℕ, zero, suc, ◌-◌, ◌^◌, ◌<◌, ◌≤◌, List, [], ◌∷◌, map, length, All, replicate, Option, Some, slice_get}
use Rattle.std.specs.List.{flat_map, range_with_len}
use Rattle.sql_values.specs.Limits.{max_axes, min_levels, max_levels, max_points}

-- what is seen of a grid: how many axes it has, and how many levels each of them has
pub record GridShape : Type 0 where
  pub axes : ℕ
  pub levels : ℕ

-- what holds of every grid
pub record IsGrid (grid : GridShape) : Type 0 where
  pub few_axes : grid.axes ≤ max_axes
  pub some_levels : min_levels ≤ grid.levels
  pub few_levels : grid.levels ≤ max_levels
  pub few_points : grid.levels ^ grid.axes ≤ max_points

-- a point of this grid: a level on each axis
pub record IsPoint (grid : GridShape) (point : List ℕ) : Type 0 where
  pub axes : length point ≡ grid.axes
  pub levels : All (λ level. level < grid.levels) point

-- all points in order: for each point of the other axes, in their order, axis 0 runs through its levels
unfoldable pub points_among : ℕ → ℕ → List (List ℕ)
points_among levels zero = [] ∷ []
points_among levels (suc others) =
    flat_map (λ rest. map (λ level. level ∷ rest) (range_with_len 0 levels)) (points_among levels others)

abbrev pub points_of : GridShape → List (List ℕ)
points_of grid = points_among grid.levels grid.axes

-- the point at this place, from 0, if there is one
abbrev pub point_at : GridShape → ℕ → Option (List ℕ)
point_at grid place = slice_get (points_of grid) place

-- the points are those of the grid, and each stands at one place of the list
pub record AreThereOnce (grid : GridShape) : Type 0 where
  pub each : All (IsPoint grid) (points_of grid)
  pub some_place : (point : List ℕ) → IsPoint grid point → (place : ℕ) × (point_at grid place ≡ Some point)
  pub one_place : (point : List ℕ) (place other : ℕ) → point_at grid place ≡ Some point → point_at grid other ≡ Some point → place ≡ other

-- the lowest level on every axis
abbrev pub bottom_of : GridShape → List ℕ
bottom_of grid = replicate grid.axes 0

-- the highest level on every axis
abbrev pub top_of : GridShape → List ℕ
top_of grid = replicate grid.axes (grid.levels - 1)
