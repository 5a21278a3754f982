-- Plans of a block with their costs at a point.
use Rattle.std.specs.Prelude.{◌≡◌, ℕ, ◌<◌, All, IfSome, List, Option, Some, length, map, slice_index}
use Rattle.plan_tree.specs.declared.plan.Plan.{Plan}
use Rattle.plan_tree.specs.Plans.{PlanTree, plan_tree}
use Rattle.cost_model.specs.Costing.{CostingShape, costing_tree}
use Rattle.cost_model.specs.Costs.{cost_of}
use Rattle.plan_space.specs.declared.part_sums.PartSums.{PartSums}
use Rattle.plan_space.specs.Parts.{PartsShape, nth_plan}
use Rattle.plan_space.specs.PartSums.{ArePartSums, HasCosts}

-- plans of a block, and the point at which they were costed last, if they were
pub record CostedPlansShape : Type 0 where
  pub costing : CostingShape
  pub plans : List PlanTree
  pub point : Option (List ℕ)

-- costed at a point
abbrev pub costed_at : CostedPlansShape → (point : List ℕ) → CostedPlansShape
costed_at costed point = record { costing = costed.costing; plans = costed.plans; point = Some point }

-- these plans, in their order, of a costing
pub record HoldsPlans (shape : CostingShape) (all : List Plan) (costed : CostedPlansShape) : Type 0 where
  pub costing : costed.costing ≡ shape
  pub plans : costed.plans ≡ map plan_tree all

-- the parts as sums, and room for what they cost; at the point where the plans were costed, that of each number is right
pub record KeepsCosts (costing : CostingShape) (parts : PartsShape) (sums : PartSums) (numbers own_costs costs : List ℕ) (point : Option (List ℕ)) : Type 0 where
  pub block : parts.block ≡ costing.block
  pub summed : ArePartSums parts sums.nodes.items sums.parts.items (length parts.plans)
  pub long : length own_costs ≡ length sums.nodes.items
  pub room : HasCosts parts.plans costs
  pub within : All (λ number. number < length parts.plans) numbers
  pub right : IfSome point (λ at. All (λ number. slice_index costs number ≡ cost_of (costing_tree costing) (nth_plan parts.plans number) at) numbers)

-- the numbers of some plans among the parts
pub record AreNumbersOf (parts : PartsShape) (plans : List PlanTree) (numbers : List ℕ) : Type 0 where
  pub within : All (λ number. number < length parts.plans) numbers
  pub those : map (nth_plan parts.plans) numbers ≡ plans
