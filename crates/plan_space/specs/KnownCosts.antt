-- What is known of the optimal costs at the points of a grid, by the places of points.
use Rattle.std.specs.Prelude.{◌≡◌, ◌⊎◌, ℕ, ◌-◌, ◌^◌, ◌<◌, ◌≤◌, List, Some, length, slice_index}
use Rattle.sql_values.specs.Limits.{max_contour_cost}
use Rattle.ess_grid.specs.Points.{GridShape, bottom_of, point_at, points_of, top_of}
use Rattle.ess_grid.specs.Order.{next_point}
use Rattle.cost_model.specs.Costing.{CostingShape, CostingTree, IsCosting, costing_tree}
use Rattle.cost_model.specs.Optimal.{optimal_cost}

-- what stands where the optimal cost isn't known
abbrev pub unknown_cost : ℕ
unknown_cost = 2 ^ 128 - 1

-- at each place is the optimal cost at the point there, or it isn't known
pub record AreKnownCosts (costing : CostingTree) (costs : List ℕ) : Type 0 where
  pub long : length costs ≡ length (points_of costing.grid)
  pub right : (place : ℕ) (point : List ℕ) → point_at costing.grid place ≡ Some point
      → (slice_index costs place ≡ unknown_cost) ⊎ (slice_index costs place ≡ optimal_cost costing point)

-- at the places before the end it is known wherever it is at most this cost
pub record AreReached (costing : CostingTree) (cost end : ℕ) (costs : List ℕ) : Type 0 where
  pub known : AreKnownCosts costing costs
  pub within : (place : ℕ) (point : List ℕ) → place < end → point_at costing.grid place ≡ Some point
      → optimal_cost costing point ≤ cost → slice_index costs place ≡ optimal_cost costing point

-- so it is at all places
abbrev pub AreAllReached : CostingTree → (cost : ℕ) → (costs : List ℕ) → Type 0
AreAllReached costing cost costs = AreReached costing cost (length (points_of costing.grid)) costs

-- at a point that is next below the one at a place stands more than this cost
pub record IsBeyond (grid : GridShape) (costs : List ℕ) (cost place : ℕ) : Type 0 where
  pub axis : ℕ
  pub below : ℕ
  pub lower : List ℕ
  pub earlier : below < place
  pub there : point_at grid below ≡ Some lower
  pub next : point_at grid place ≡ Some (next_point lower axis)
  pub dearer : cost < slice_index costs below

-- what is seen of the points that cost at most so much
pub record ReachedShape : Type 0 where
  pub costing : CostingShape
  pub cost : ℕ

-- the optimal costs at these are known
pub record IsReached (shape : ReachedShape) (costs : List ℕ) : Type 0 where
  pub costing : IsCosting (costing_tree shape.costing)
  pub cost : shape.cost ≤ max_contour_cost
  pub all : AreAllReached (costing_tree shape.costing) shape.cost costs

-- some optimal costs, among them those at the bottom and at the top of the grid
pub record IsOutlook (shape : CostingShape) (costs : List ℕ) (least greatest : ℕ) : Type 0 where
  pub costing : IsCosting (costing_tree shape)
  pub known : AreKnownCosts (costing_tree shape) costs
  pub bottom : least ≡ optimal_cost (costing_tree shape) (bottom_of shape.grid)
  pub top : greatest ≡ optimal_cost (costing_tree shape) (top_of shape.grid)
