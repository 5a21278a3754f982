use Rattle.ess_grid.proofs.PointOrder.{PointBelow-next_point, next_point-adjacent}
use Rattle.ess_grid.proofs.GridPoints.{sum-below}
use Rattle.ess_grid.proofs.law.next_points_are_next.Goals as goal

pub returns-clause-above : goal.returns-clause-above
returns-clause-above c = PointBelow-next_point

pub returns-clause-adjacent : goal.returns-clause-adjacent
returns-clause-adjacent c = λ point between axis. next_point-adjacent point axis between

pub returns-clause-at_most : goal.returns-clause-at_most
returns-clause-at_most c = sum-below
