-- The optimal costs at all points of a grid, which decide which points are on which frontier.
use Rattle.std.specs.Prelude.{ℕ, List, map}
use Rattle.ess_grid.specs.Points.{points_of}
use Rattle.cost_model.specs.Costing.{CostingTree}
use Rattle.cost_model.specs.Optimal.{optimal_cost}

-- the optimal cost at each point, in the grid's order
abbrev pub optimal_costs : CostingTree → List ℕ
optimal_costs costing = map (optimal_cost costing) (points_of costing.grid)
