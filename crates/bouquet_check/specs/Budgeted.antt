-- The plans of a contour, held against one point after another.
use Rattle.std.specs.Prelude.{◌≡◌, ℕ, ◌<◌, true, false, IfSome, List, length, Option, Some, None}
use Rattle.plan_tree.specs.declared.plan.Plan.{Plan}
use Rattle.cost_model.specs.Costing.{CostingShape, costing_tree}
use Rattle.plan_space.specs.CostedPlans.{CostedPlansShape}
use Rattle.bouquet_check.specs.Verdicts.{fits_at}

-- by which costs, which plans, and under which budget
pub record BudgetedShape : Type 0 where
  pub costing : CostingShape
  pub plans : List Plan
  pub budget : ℕ

-- of plans that are costed at a point the place of one that is within a budget there; none where none is
abbrev pub FindsWithin : CostedPlansShape → (budget : ℕ) → Option ℕ → Type 0
FindsWithin costed budget (Some place) =
    (place < length costed.plans) × IfSome costed.point (λ point. fits_at (costing_tree costed.costing) budget costed.plans point ≡ true)
FindsWithin costed budget None =
    IfSome costed.point (λ point. fits_at (costing_tree costed.costing) budget costed.plans point ≡ false)
