-- Best plans at a point.
use Rattle.std.specs.Prelude.{◌≢◌, ℕ, ◌≤◌, List}
use Rattle.std.specs.declared.cmp.Ordering.TheVariants.{Greater}
use Rattle.plan_tree.specs.Plans.{PlanTree}
use Rattle.plan_tree.specs.Order.{plan_order_of}
use Rattle.plan_tree.specs.Enumerated.{IsPlan}
use Rattle.cost_model.specs.Costing.{CostingTree}
use Rattle.cost_model.specs.Costs.{cost_of}

-- a plan of the block than which no other one costs less
pub record IsCheapest (costing : CostingTree) (point : List ℕ) (p : PlanTree) : Type 0 where
  pub plan : IsPlan costing.block p
  pub least : (other : PlanTree) → IsPlan costing.block other → cost_of costing p point ≤ cost_of costing other point

-- the first of these in plan order
pub record IsBest (costing : CostingTree) (point : List ℕ) (p : PlanTree) : Type 0 where
  pub cheapest : IsCheapest costing point p
  pub first : (other : PlanTree) → IsCheapest costing point other → plan_order_of p other ≢ Greater
