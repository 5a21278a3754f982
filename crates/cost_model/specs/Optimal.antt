-- The optimal cost at a point: the least of all plans of a block. And the best plan there, which has it.
use Rattle.std.specs.Prelude.{ℕ, min, List, [], ◌∷◌, map, if◌then◌else◌}
use Rattle.std.specs.Ordering.{nat_cmp, ordering_then, is_gt}
use Rattle.std.specs.declared.cmp.Ordering.{Ordering}
use Rattle.plan_tree.specs.Plans.{PlanTree, Scan}
use Rattle.plan_tree.specs.Order.{plan_order_of}
use Rattle.plan_tree.specs.AllPlans.{plans_of}
use Rattle.cost_model.specs.Costing.{CostingTree}
use Rattle.cost_model.specs.Costs.{cost_of}

-- the least of some numbers
abbrev pub least_of : List ℕ → ℕ
least_of [] = 0
least_of (n ∷ []) = n
least_of (n ∷ m ∷ more) = min n (least_of (m ∷ more))

-- the least cost of a plan of the block at a point
abbrev pub optimal_cost : CostingTree → (point : List ℕ) → ℕ
optimal_cost costing point = least_of (map (λ p. cost_of costing p point) (plans_of costing.block))

-- the first of some plans in an order
abbrev pub first_plan : (PlanTree → PlanTree → Ordering) → List PlanTree → PlanTree
first_plan order [] = Scan 0
first_plan order (p ∷ []) = p
first_plan order (p ∷ other ∷ more) =
    let rest = first_plan order (other ∷ more) in
    if is_gt (order p rest) then rest else p

-- the first in plan order of the cheapest plans of the block at a point: in the order by cost, and of equally cheap ones by
-- plan order
abbrev pub best_plan : CostingTree → (point : List ℕ) → PlanTree
best_plan costing point =
    first_plan
    (λ p other. ordering_then (nat_cmp (cost_of costing p point) (cost_of costing other point)) (plan_order_of p other))
    (plans_of costing.block)
