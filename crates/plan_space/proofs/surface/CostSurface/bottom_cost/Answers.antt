use Rattle.std.proofs.Common.{◌∙◌, ap, arith, subst}
use Rattle.std.proofs.Math.Nat.{one-le-pow}
use Rattle.ess_grid.specs.Points.{IsGrid, points_of, bottom_of}
use Rattle.ess_grid.proofs.GridPoints.{slice_get-bottom}
use Rattle.cost_model.specs.Costing.{CostingShape, costing_tree}
use Rattle.cost_model.specs.Optimal.{optimal_cost}
use Rattle.plan_space.proofs.ByPlaces.{number-of-point}
use Rattle.plan_space.proofs.surface.CostSurface.bottom_cost.Goals as goal

pub prove-unreachable-requires : goal.prove-unreachable-requires
prove-unreachable-requires c =
    let grid = c.grid.result.now in
    omega (arith, c.if-prove.true, c.points.ensures.power, one-le-pow grid.axes grid.levels (omega (arith, c.points.ensures.grid.some_levels)))

pub returns : goal.returns
returns c =
    let costing = c.self.inside.costing.now in
    number-of-point (optimal_cost (costing_tree costing)) (points_of costing.grid) c.self.inside.costs.items 0 c.index.result.now (bottom_of costing.grid)
    c.self.invariant.1 (slice_get-bottom costing.grid (subst IsGrid c.grid.ensures c.points.ensures.grid)) c.index.ensures
    ∙ ap (λ (one : CostingShape). optimal_cost (costing_tree one) (bottom_of one.grid)) c.self.view_is
