-- Which grids there aren't.
use Rattle.std.specs.Prelude.{◌≡◌, ◌⊎◌, ℕ, ◌^◌, ◌<◌, ◌≤◌, Option, Some}
use Rattle.sql_values.specs.Limits.{min_levels, max_levels, max_points}
use Rattle.ess_grid.specs.Levels.{levels_of}

-- these levels are given, and no axis can have them
pub record HasBadLevels (levels : Option ℕ) (given : ℕ) : Type 0 where
  pub are_given : levels ≡ Some given
  pub are_bad : (given < min_levels) ⊎ (max_levels < given)

-- its axes can have their levels, but it would have so many points, which are too many
pub record HasTooManyPoints (axes : ℕ) (levels : Option ℕ) (points : ℕ) : Type 0 where
  pub some_levels : min_levels ≤ levels_of axes levels
  pub few_levels : levels_of axes levels ≤ max_levels
  pub are_so_many : points ≡ levels_of axes levels ^ axes
  pub are_too_many : max_points < points
