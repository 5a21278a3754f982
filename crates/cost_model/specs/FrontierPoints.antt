-- The points of a frontier with their best plans.
use Rattle.std.specs.Prelude.{◌≡◌, ℕ, ◌≤◌, All, List, length, map}
use Rattle.sql_values.specs.Limits.{max_points}
use Rattle.ess_grid.specs.Points.{IsPoint}
use Rattle.plan_tree.specs.Plans.{plan_tree}
use Rattle.cost_model.specs.Costing.{CostingTree}
use Rattle.cost_model.specs.Best.{IsBest}
use Rattle.cost_model.specs.Optimal.{optimal_cost}
use Rattle.cost_model.specs.declared.frontier_point.FrontierPoint.{FrontierPoint}

-- a point of the grid, with its best plan and the optimal cost
pub record IsFrontierPoint (costing : CostingTree) (at : FrontierPoint) : Type 0 where
  pub point : IsPoint costing.grid at.point
  pub best : IsBest costing at.point (plan_tree at.plan)
  pub cost : at.cost ≡ optimal_cost costing at.point

-- a frontier: points of the grid, no more than it may have
pub record IsFrontier (costing : CostingTree) (frontier : List FrontierPoint) : Type 0 where
  pub each : All (IsFrontierPoint costing) frontier
  pub few : length frontier ≤ max_points

-- the points alone
abbrev pub frontier_points : List FrontierPoint → List (List ℕ)
frontier_points frontier = map (λ at. at.point) frontier
