use Rattle.std.proofs.Common.{◌≡◌, drop}
use Rattle.ess_grid.proofs.PointsAmong.{place_at}
use Rattle.plan_space.proofs.Places.{kept_levels}
use Rattle.plan_space.proofs.alike.alike_place.Given as goal

abbrev pub invariant-loop-axis : goal.invariant-loop-axis
invariant-loop-axis l = l.place ≡ place_at l.prices.costing.grid.levels (drop l.axis (kept_levels l.kept 0 l.prices.point))
