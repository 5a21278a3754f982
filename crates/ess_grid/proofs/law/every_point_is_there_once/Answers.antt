use Rattle.std.proofs.Common.{◌∙◌, sym}
use Rattle.ess_grid.proofs.PointsAmong.{place_at}
use Rattle.ess_grid.proofs.GridPoints.{length-points_of, All-points_of, slice_get-place_at, place_once}
use Rattle.ess_grid.proofs.law.every_point_is_there_once.Goals as goal

pub returns-clause-count : goal.returns-clause-count
returns-clause-count c = length-points_of

pub returns-clause-once : goal.returns-clause-once
returns-clause-once c = λ grid is_grid. record {
  each = All-points_of grid is_grid;
  some_place = λ point is_point. (place_at grid.levels point, slice_get-place_at grid point is_grid is_point);
  one_place = λ point place other here there. place_once grid point place is_grid here ∙ sym (place_once grid point other is_grid there);
}
