-- What a grid's functions need of its points and levels.
use Rattle.ess_grid.proofs.PointOrder.{PointBelow-next_point, next_point-adjacent}
use Rattle.ess_grid.proofs.PointsAmong.{levels_at-all, place_at-drop}
use Rattle.ess_grid.proofs.GridPoints.{place_at-drop-fits, length-points_of, slice_get-points_of, IsPoint-levels_at, slice_get-place_at, place_at-below}
use Rattle.ess_grid.proofs.Selectivities.{halvings_of-le, selectivity_of-le}
use Rattle.ess_grid.proofs.Sizes.{few_points, few_default_points}

pub ruleset of_grids = (levels_at-all, place_at-drop, place_at-drop-fits, PointBelow-next_point, next_point-adjacent, length-points_of, slice_get-points_of, IsPoint-levels_at, slice_get-place_at, place_at-below, halvings_of-le, selectivity_of-le, few_points, few_default_points)
