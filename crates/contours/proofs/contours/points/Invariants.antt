use Rattle.std.proofs.Common.{◌≡◌, take}
use Rattle.plan_space.specs.SurfacePoints.{surface_points}
use Rattle.contours.proofs.contours.points.Given as goal

abbrev pub invariant-loop-at : goal.invariant-loop-at
invariant-loop-at l = l.points.items ≡ surface_points (take l.at-index l.frontier)
