-- The frontier of a contour: the outermost points at which the optimal cost is within the contour's.
use Rattle.std.specs.Prelude.{ℕ, ◌&&◌, not, nat_le, Bool, List, filter}
use Rattle.std.specs.List.{list_any}
use Rattle.ess_grid.specs.Points.{points_of}
use Rattle.ess_grid.specs.Order.{successors}
use Rattle.cost_model.specs.Costing.{CostingTree}
use Rattle.cost_model.specs.Optimal.{optimal_cost}

-- whether the optimal cost at a point is at most this cost
abbrev pub is_within_cost : CostingTree → (cost : ℕ) → (point : List ℕ) → Bool
is_within_cost costing cost point = nat_le (optimal_cost costing point) cost

-- whether it is, and at no point that is next above
abbrev pub is_on_frontier : CostingTree → (cost : ℕ) → (point : List ℕ) → Bool
is_on_frontier costing cost point =
    is_within_cost costing cost point && not (list_any (is_within_cost costing cost) (successors costing.grid point))

-- the frontier of a contour of this cost, its points in the grid's order
unfoldable pub frontier : CostingTree → (cost : ℕ) → List (List ℕ)
frontier costing cost = filter (is_on_frontier costing cost) (points_of costing.grid)
