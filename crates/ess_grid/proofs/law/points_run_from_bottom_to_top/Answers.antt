use Rattle.ess_grid.proofs.GridPoints.{slice_get-bottom, slice_get-top, PointBelow-bottom, PointBelow-top}
use Rattle.ess_grid.proofs.law.points_run_from_bottom_to_top.Goals as goal

pub returns-clause-first : goal.returns-clause-first
returns-clause-first c = slice_get-bottom

pub returns-clause-last : goal.returns-clause-last
returns-clause-last c = slice_get-top

pub returns-clause-bottom : goal.returns-clause-bottom
returns-clause-bottom c = PointBelow-bottom

pub returns-clause-top : goal.returns-clause-top
returns-clause-top c = PointBelow-top
