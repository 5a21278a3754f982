-- From the points of a contour's frontier to all points within its cost.
use Rattle.std.proofs.Common.{◌≡◌, ℕ, ◌≤◌, List, Contains, true, arith}
use Rattle.std.proofs.lemmas.Grind.{common_steps}
use Rattle.std.proofs.lemmas.List.Elements.{filter_passes, All-contains}
use Rattle.ess_grid.specs.Points.{IsGrid, IsPoint}
use Rattle.cost_model.specs.Costing.{CostingTree}
use Rattle.cost_model.specs.Optimal.{optimal_cost}
use Rattle.cost_model.specs.Frontier.{is_on_frontier, frontier}
use Rattle.cost_model.proofs.Monotone.{cost-le}
use Rattle.cost_model.proofs.Frontiers.{frontier-above}
use Rattle.bouquet_type.specs.Trees.{ContourTree}
use Rattle.bouquet_type.specs.Sound.{FitsAt}

-- at a point of the frontier the optimal cost is within the contour's
within-passes : (costing : CostingTree) (cost : ℕ) (point : List ℕ) → is_on_frontier costing cost point ≡ true → optimal_cost costing point ≤ cost
within-passes costing cost point passes = grind (arith, passes)

pub frontier-within : (costing : CostingTree) (cost : ℕ) (point : List ℕ) → Contains (frontier costing cost) point → optimal_cost costing point ≤ cost
unfolding frontier
frontier-within costing cost point is = grind (arith, common_steps, filter_passes, within-passes, All-contains)

-- costs grow, and above each point within the contour's cost lies one of its frontier: where some plan fits at each of these,
-- one fits at each point within the cost
pub fits-below : (costing : CostingTree) (threshold : ℕ) (point : List ℕ) (contour : ContourTree) → IsGrid costing.grid → IsPoint costing.grid point
    → ((other : List ℕ) → Contains (frontier costing contour.cost) other → FitsAt costing threshold other contour)
    → optimal_cost costing point ≤ contour.cost → FitsAt costing threshold point contour
fits-below costing threshold point contour is_grid is_point fits within =
    let above = frontier-above costing contour.cost point is_grid is_point within in
    let there = fits above.0 above.1 in
    let cost = cost-le costing there.0 point above.0 above.2 in
    (there.0, there.1, omega (arith, cost, there.2))
