use Rattle.std.proofs.Common.{◌≡◌, drop}
use Rattle.ess_grid.proofs.PointsAmong.{place_at}
use Rattle.ess_grid.proofs.grid.Grid.place_of.Given as goal

abbrev pub invariant-loop-axis : goal.invariant-loop-axis
invariant-loop-axis l = l.place ≡ place_at l.self-inside.levels (drop l.axis l.levels)
