-- Levels of which none is missing are a point.
use Rattle.std.proofs.Common.{rules, arith, ◌≡◌, None, length, sym, subst}
use Rattle.std.proofs.lemmas.Grind.{common_steps}
use Rattle.ess_grid.specs.Points.{IsPoint}
use Rattle.session.specs.Audit.{level_refusal}
use Rattle.session.proofs.PointLevels.{none_missing}
use Rattle.session.proofs.audit.point_of.Goals as goal

pub returns-clause-of_grid : goal.returns-clause-of_grid
returns-clause-of_grid c =
    let grid = c.args.grid.now in
    let levels = c.args.levels.now in
    let same : c.new.result ≡ levels = grind (arith, common_steps) in
    let axes : length levels ≡ grid.axes = search rules in
    let none : level_refusal grid.levels levels ≡ None = subst (λ count. level_refusal count levels ≡ None) c.levels.ensures.levels c.in_ok-check_point.ensures.answered in
    subst (IsPoint grid) (sym same) (record { axes = axes; levels = none_missing grid.levels levels none })
