-- The points of a frontier, and the plans that are best there.
use Rattle.std.specs.Prelude.{ℕ, ◌<◌, All, Contains, List, [], length, map, slice_index_or}
use Rattle.plan_tree.specs.declared.plan.Plan.{Plan}
use Rattle.plan_tree.specs.Plans.{PlanTree, plan_tree}
use Rattle.cost_model.specs.Costing.{CostingTree}
use Rattle.cost_model.specs.Best.{IsBest}
use Rattle.cost_model.specs.Optimal.{best_plan}
use Rattle.plan_space.specs.declared.outlook.FrontierPlans.{FrontierPlans}
use Rattle.plan_space.specs.SurfacePoints.{IsSurfacePoint, surface_points}

-- the point of this number, from 0
abbrev pub nth_point : List (List ℕ) → (number : ℕ) → List ℕ
nth_point points number = slice_index_or points number []

-- a plan is best at one of some points
pub record IsBestAmong (costing : CostingTree) (points : List (List ℕ)) (p : PlanTree) : Type 0 where
  pub number : ℕ
  pub exists : number < length points
  pub best : IsBest costing (nth_point points number) p

-- the best plan at a point is one of some plans
abbrev pub HasBest : CostingTree → List Plan → (point : List ℕ) → Type 0
HasBest costing plans point = Contains (map plan_tree plans) (best_plan costing point)

-- each of some plans is best at one of some points, and at each point before the end one of them is
pub record HoldsBest (costing : CostingTree) (points : List (List ℕ)) (end : ℕ) (plans : List Plan) : Type 0 where
  pub each : All (λ p. IsBestAmong costing points (plan_tree p)) plans
  pub all : (number : ℕ) → number < end → HasBest costing plans (nth_point points number)

-- these are points of the grid with their optimal costs, and the plans that are best there
pub record AreFrontierPlans (costing : CostingTree) (frontier : FrontierPlans) : Type 0 where
  pub points : All (IsSurfacePoint costing) frontier.points.items
  pub plans : HoldsBest costing (surface_points frontier.points.items) (length frontier.points.items) frontier.plans.items
