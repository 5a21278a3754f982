use Rattle.std.proofs.Common.{◌≡◌, ◌∙◌, ◌-◌, ◌^◌, length, ap, arith, subst, Some}
use Rattle.std.specs.Prelude.{slice_get}
use Rattle.std.proofs.Math.Nat.{one-le-pow}
use Rattle.std.proofs.lemmas.List.{length-map}
use Rattle.ess_grid.specs.Points.{GridShape, IsGrid, points_of, top_of}
use Rattle.ess_grid.proofs.GridPoints.{slice_get-top}
use Rattle.cost_model.specs.Costing.{CostingShape, costing_tree}
use Rattle.cost_model.specs.Optimal.{optimal_cost}
use Rattle.plan_space.proofs.ByPlaces.{number-of-point}
use Rattle.plan_space.proofs.surface.CostSurface.top_cost.Goals as goal

pub overflow_sub-points : goal.overflow_sub-points
overflow_sub-points c =
    let grid = c.grid.result.now in
    omega (arith, c.points.ensures.power, one-le-pow grid.axes grid.levels (omega (arith, c.points.ensures.grid.some_levels)))

pub index-requires : goal.index-requires
index-requires c =
    let costing = c.self.inside.costing.now in
    let points = points_of costing.grid in
    omega (
      arith,
      overflow_sub-points c,
      c.points.ensures.count,
      ap (λ (g : GridShape). length (points_of g)) c.grid.ensures,
      ap length c.self.invariant.1,
      length-map points (optimal_cost (costing_tree costing)),
      c.self.inside.costs.ok.0,
    )

pub returns : goal.returns
returns c =
    let costing = c.self.inside.costing.now in
    let grid = costing.grid in
    let place : c.points.result - 1 ≡ grid.levels ^ grid.axes - 1 = ap (λ n. n - 1) (c.points.ensures.power ∙ ap (λ (g : GridShape). g.levels ^ g.axes) c.grid.ensures) in
    let there : slice_get (points_of grid) (c.points.result - 1) ≡ Some (top_of grid) =
    ap (slice_get (points_of grid)) place ∙ slice_get-top grid (subst IsGrid c.grid.ensures c.points.ensures.grid) in
    number-of-point (optimal_cost (costing_tree costing)) (points_of grid) c.self.inside.costs.items (c.points.result - 1) c.index.result.now (top_of grid)
    c.self.invariant.1 there c.index.ensures
    ∙ ap (λ (one : CostingShape). optimal_cost (costing_tree one) (top_of one.grid)) c.self.view_is
