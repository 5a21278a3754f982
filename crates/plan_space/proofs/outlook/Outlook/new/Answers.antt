use Rattle.std.proofs.Common.{◌≡◌, ◌∙◌, ◌-◌, length, ap, sym, subst, arith}
use Rattle.ess_grid.specs.Points.{GridShape, bottom_of, points_of, top_of}
use Rattle.ess_grid.proofs.GridPoints.{slice_get-bottom}
use Rattle.cost_model.specs.Costing.{CostingShape, costing_tree}
use Rattle.cost_model.specs.Optimal.{optimal_cost}
use Rattle.plan_space.specs.KnownCosts.{IsOutlook}
use Rattle.plan_space.specs.Places.{HoldsAt}
use Rattle.plan_space.proofs.ByPlaces.{some-points, top-there}
use Rattle.plan_space.proofs.outlook.Outlook.new.Goals as goal

pub cost-requires : goal.cost-requires
cost-requires c =
    let costing = c.args.costing.now in
    omega (arith, some-points costing.grid c.block-block.ensures.costing.grid, ap (λ (one : CostingShape). length (points_of one.grid)) c.in_ok-best.ensures)

pub overflow_sub-points : goal.overflow_sub-points
overflow_sub-points c =
    let grid = c.args.costing.now.grid in
    omega (arith, some-points grid c.block-block.ensures.costing.grid, c.points-points.ensures.count, ap (λ (g : GridShape). length (points_of g)) c.grid.ensures)

pub cost-requires-2 : goal.cost-requires-2
cost-requires-2 c =
    let grid = c.args.costing.now.grid in
    omega (
      arith,
      some-points grid c.block-block.ensures.costing.grid,
      c.points-points.ensures.count,
      ap (λ (g : GridShape). length (points_of g)) c.grid.ensures,
      ap (λ (one : CostingShape). length (points_of one.grid)) (c.cost.ensures.same ∙ c.in_ok-best.ensures),
    )

pub invariant_of-result : goal.invariant_of-result
invariant_of-result c =
    let costing = c.args.costing.now in
    let is = c.block-block.ensures.costing in
    let first = c.in_ok-best.ensures in
    let second = c.cost.ensures.same ∙ first in
    let same = c.cost-2.ensures.same ∙ second in
    let count = c.points-points.ensures.count ∙ ap (λ (g : GridShape). length (points_of g)) c.grid.ensures in
    let bottom = subst (λ (one : CostingShape). HoldsAt one.grid 0 (λ q. c.in_ok-bottom.bottom ≡ optimal_cost (costing_tree one) q)) first c.in_ok-bottom.ensures.cost in
    let top = subst (λ (one : CostingShape). HoldsAt one.grid (c.points-points.result - 1) (λ q. c.in_ok-top.top ≡ optimal_cost (costing_tree one) q)) second c.in_ok-top.ensures.cost in
    subst (λ (one : CostingShape). IsOutlook one c.in_ok-costs.costs.items c.in_ok-bottom.bottom c.in_ok-top.top) (sym same)
    (record {
      costing = is;
      known = c.in_ok-costs.ensures;
      bottom = bottom (bottom_of costing.grid) (slice_get-bottom costing.grid is.grid);
      top = top (top_of costing.grid) (top-there costing.grid is.grid c.points-points.result count);
    })
