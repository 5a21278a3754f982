-- How the learned levels rise when one execution more is exhausted.
use Rattle.std.specs.Prelude.{◌≡◌, ℕ, ◌<◌, ◌≤◌, Bool, IfSome, List, Option, Some, None, true, slice_index, slice_set}
use Rattle.std.specs.List.{list_any}
use Rattle.ess_grid.specs.Points.{GridShape, IsPoint, top_of}
use Rattle.plan_tree.specs.Plans.{PlanTree}
use Rattle.cost_model.specs.Costing.{CostingTree}
use Rattle.cost_model.specs.Costs.{cost_of}
use Rattle.bouquet_type.specs.Schedule.{Member}
use Rattle.learned_run.specs.Learning.{least_levels, points_left}

-- the top of a grid, but with this level on one axis
abbrev pub corner_of : GridShape → (axis level : ℕ) → List ℕ
corner_of grid axis level = slice_set (top_of grid) axis level

-- the least level from one on at whose corner a plan costs more than a budget
pub record IsLevelPast (costing : CostingTree) (p : PlanTree) (budget axis before level : ℕ) : Type 0 where
  pub risen : before ≤ level
  pub past : budget < cost_of costing p (corner_of costing.grid axis level)
  pub within : (lower : ℕ) → before ≤ lower → lower < level → cost_of costing p (corner_of costing.grid axis lower) ≤ budget

-- the levels of a point rise so, on each axis; and the plan costs more than the budget at the top
pub record IsRaised (costing : CostingTree) (p : PlanTree) (budget : ℕ) (before after : List ℕ) : Type 0 where
  pub of_grid : IsPoint costing.grid after
  pub top : budget < cost_of costing p (top_of costing.grid)
  pub levels : (axis : ℕ) → axis < costing.grid.axes → IsLevelPast costing p budget axis (slice_index before axis) (slice_index after axis)

-- the least levels of what is left, if something is, where the plan is exhausted by the budget too
abbrev pub RulesOut : CostingTree → PlanTree → (budget : ℕ) → (before after : Option (List ℕ)) → Type 0
RulesOut costing p budget None after = after ≡ None
RulesOut costing p budget (Some before) None = cost_of costing p (top_of costing.grid) ≤ budget
RulesOut costing p budget (Some before) (Some after) = IsRaised costing p budget before after

-- what is kept of exhausted executions: whether there are some, and the least levels of the points that are left
pub record IsLearned (costing : CostingTree) (exhausted : List Member) (some : Bool) (least : Option (List ℕ)) : Type 0 where
  pub is_some : some ≡ list_any (λ _. true) exhausted
  pub levels : least ≡ least_levels costing.grid (points_left costing exhausted)
  pub of_grid : IfSome least (IsPoint costing.grid)
