-- One level more.
use Rattle.std.proofs.Common.{arith, length-set}
use Rattle.std.proofs.lemmas.Grind.{common_steps}
use Rattle.ess_grid.proofs.PointsAmong.{levels_at-set}
use Rattle.ess_grid.proofs.grid.Grid.point.Goals as goal

pub loop-axis-preserved : goal.loop-axis-preserved
loop-axis-preserved c = grind (arith, common_steps, length-set, levels_at-set)
