use Rattle.std.proofs.Common.{sym, subst}
use Rattle.ess_grid.specs.Points.{IsPoint}
use Rattle.learned_run.proofs.CornerPoints.{corner-made, corner-point}
use Rattle.learned_run.proofs.corners.corner.Goals as goal

pub returns-clause-corner : goal.returns-clause-corner
returns-clause-corner c =
    let grid = c.args.grid.now in
    corner-made c.new.result grid c.axes.result c.levels.result c.args.axis c.args.level c.axes.ensures c.levels.ensures.levels c.levels.ensures.grid c.requires.axis c.new.ensures

pub returns-clause-of_grid : goal.returns-clause-of_grid
returns-clause-of_grid c =
    let grid = c.args.grid.now in
    let made = corner-made c.new.result grid c.axes.result c.levels.result c.args.axis c.args.level c.axes.ensures c.levels.ensures.levels c.levels.ensures.grid c.requires.axis c.new.ensures in
    subst (IsPoint grid) (sym made) (corner-point grid c.args.axis c.args.level c.levels.ensures.grid c.requires.level)
