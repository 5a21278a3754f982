use Rattle.std.proofs.Common.{◌≡◌, ◌-◌, ◌++◌, length, take}
use Rattle.sql_values.specs.Limits.{max_axes}
use Rattle.ess_grid.proofs.PointsAmong.{levels_at}
use Rattle.ess_grid.proofs.grid.Grid.point.Given as goal

abbrev pub invariant-loop-axis : goal.invariant-loop-axis
invariant-loop-axis l =
    let grid = l.self-inside in
    (length l.levels ≡ max_axes) × (take l.axis l.levels ++ levels_at grid.levels (grid.axes - l.axis) l.rest ≡ levels_at grid.levels grid.axes l.i)
