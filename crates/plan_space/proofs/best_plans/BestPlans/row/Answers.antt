use Rattle.std.proofs.Common.{◌≡◌, [], Some, get_or, sym, subst}
use Rattle.std.proofs.lemmas.Option.{slice_get-get_or}
use Rattle.ess_grid.specs.Points.{points_of}
use Rattle.cost_model.specs.Costing.{CostingShape}
use Rattle.plan_space.specs.Places.{HoldsAt}
use Rattle.plan_space.specs.KeptRows.{kept_row_at}
use Rattle.plan_space.specs.Alike.{LeastAt}
use Rattle.plan_space.proofs.Filled.{standing}
use Rattle.plan_space.proofs.best_plans.BestPlans.row.Goals as goal

pub returns-in-Some-clause-least : goal.returns-in-Some-clause-least
returns-in-Some-clause-least c =
    let best = c.self.inside in
    let row = c.in-Some.row.now in
    let kept : kept_row_at best.rows c.args.place ≡ Some row = sym c.in-Some.ensures in
    subst (λ (costing : CostingShape). HoldsAt costing.grid c.args.place (LeastAt costing row)) c.self.view_is
    (λ point there. c.self.invariant.earlier.tables c.args.place point row kept there)

pub returns-in-Some-clause-stands : goal.returns-in-Some-clause-stands
returns-in-Some-clause-stands c =
    let points = points_of c.args.self.now.grid in
    let point = get_or points c.args.place [] in
    standing _ _ _ (returns-in-Some-clause-least c point (slice_get-get_or points c.args.place [] c.requires))

pub returns-clause-least : goal.returns-clause-least
returns-clause-least c =
    subst (λ (costing : CostingShape). HoldsAt costing.grid c.args.place (LeastAt costing c.fill_at.new.table)) c.self.view_is c.fill_at.ensures

pub returns-clause-stands : goal.returns-clause-stands
returns-clause-stands c =
    let points = points_of c.args.self.now.grid in
    let point = get_or points c.args.place [] in
    standing _ _ _ (returns-clause-least c point (slice_get-get_or points c.args.place [] c.requires))
