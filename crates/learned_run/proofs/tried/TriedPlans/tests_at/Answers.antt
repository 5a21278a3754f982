use Rattle.std.proofs.Common.{sym, subst, arith}
use Rattle.ess_grid.specs.Points.{IsPoint}
use Rattle.cost_model.specs.Costing.{IsCosting, costing_tree}
use Rattle.cost_model.proofs.Bounds.{cost-below}
use Rattle.cost_model.proofs.Least.{optimal-least}
use Rattle.bouquet_type.proofs.SomePlan.{some-plan}
use Rattle.learned_run.specs.Covering.{TriedShape}
use Rattle.learned_run.proofs.tried.TriedPlans.tests_at.Goals as goal

pub cost_at-requires : goal.cost_at-requires
cost_at-requires c =
    subst (λ (tried : TriedShape). IsPoint tried.costing.grid c.args.row.now.point) (sym c.self.view_is) c.requires.row.point

pub tests-requires-clause-cost : goal.tests-requires-clause-cost
tests-requires-clause-cost c =
    let costing = costing_tree c.args.self.now.costing in
    let row = c.args.row.now in
    let is = subst (λ (tried : TriedShape). IsCosting (costing_tree tried.costing)) c.self.view_is c.self.invariant.0 in
    let plan = some-plan costing.block is.block in
    let below = cost-below costing plan.0 row.point is plan.1.nodes in
    omega (arith, below, optimal-least costing plan.0 row.point plan.1, c.requires.row.cost)
