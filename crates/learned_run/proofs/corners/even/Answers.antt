use Rattle.std.proofs.Common.{sym, subst}
use Rattle.ess_grid.specs.Points.{IsPoint}
use Rattle.learned_run.proofs.CornerPoints.{even-point, even-made}
use Rattle.learned_run.proofs.corners.even.Goals as goal

pub returns-clause-levels : goal.returns-clause-levels
returns-clause-levels c = even-made c.new.result c.args.grid.now c.axes.result c.args.level c.axes.ensures c.levels.ensures.grid c.new.ensures

pub returns-clause-of_grid : goal.returns-clause-of_grid
returns-clause-of_grid c =
    subst (IsPoint c.args.grid.now) (sym (even-made c.new.result c.args.grid.now c.axes.result c.args.level c.axes.ensures c.levels.ensures.grid c.new.ensures))
    (even-point c.args.grid.now c.args.level c.requires)
