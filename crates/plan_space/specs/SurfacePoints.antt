-- The points of a frontier with the optimal costs there.
use Rattle.std.specs.Prelude.{◌≡◌, ℕ, List, map}
use Rattle.ess_grid.specs.Points.{IsPoint}
use Rattle.cost_model.specs.Costing.{CostingTree}
use Rattle.cost_model.specs.Optimal.{optimal_cost}
use Rattle.plan_space.specs.declared.surface.SurfacePoint.{SurfacePoint}

-- a point of the grid, with the optimal cost
pub record IsSurfacePoint (costing : CostingTree) (at : SurfacePoint) : Type 0 where
  pub point : IsPoint costing.grid at.point
  pub cost : at.cost ≡ optimal_cost costing at.point

-- the points alone
abbrev pub surface_points : List SurfacePoint → List (List ℕ)
surface_points points = map (λ at. at.point) points
