-- A few plans for many points: those that greedy reduction takes.
use Rattle.std.specs.Prelude.{ℕ, zero, suc, ◌+◌, ◌*◌, not, nat_le, Bool, List, [], ◌∷◌, IsTrue, count_by, filter, length, map}
use Rattle.std.specs.Ordering.{nat_cmp, ordering_then}
use Rattle.std.specs.declared.cmp.Ordering.{Ordering}
use Rattle.plan_tree.specs.Plans.{PlanTree}
use Rattle.plan_tree.specs.Order.{plan_order_of}
use Rattle.cost_model.specs.Costing.{CostingTree}
use Rattle.cost_model.specs.Costs.{cost_of}
use Rattle.cost_model.specs.Optimal.{optimal_cost, first_plan, best_plan}

-- whether a plan covers a point: it costs there at most so many percent more than the best plan
abbrev pub covers_at : CostingTree → (threshold : ℕ) → PlanTree → (point : List ℕ) → Bool
covers_at costing threshold p point = nat_le (100 * cost_of costing p point) ((100 + threshold) * optimal_cost costing point)

abbrev pub CoversAt : CostingTree → (threshold : ℕ) → PlanTree → (point : List ℕ) → Type 0
CoversAt costing threshold p point = IsTrue (covers_at costing threshold p point)

-- the order of plans by how many of some points they cover, the most first, and of equals by plan order
abbrev pub order_by_cover : CostingTree → (threshold : ℕ) → (points : List (List ℕ)) → PlanTree → PlanTree → Ordering
order_by_cover costing threshold points p other =
    ordering_then
    (nat_cmp (count_by (covers_at costing threshold other) points) (count_by (covers_at costing threshold p) points))
    (plan_order_of p other)

-- so many turns, each of which takes of the candidates the first in that order, by the points that no plan covers yet
unfoldable pub greedy_turns : CostingTree → (threshold : ℕ) → (candidates : List PlanTree) → (turns : ℕ) → (uncovered : List (List ℕ)) → List PlanTree
greedy_turns costing threshold candidates zero uncovered = []
greedy_turns costing threshold candidates (suc turns) [] = []
greedy_turns costing threshold candidates (suc turns) (point ∷ uncovered) =
    let p = first_plan (order_by_cover costing threshold (point ∷ uncovered)) candidates in
    p ∷ greedy_turns costing threshold candidates turns (filter (λ other. not (covers_at costing threshold p other)) (point ∷ uncovered))

-- the plans that are taken for these points until all are covered, of their best plans: a turn covers one point at least
abbrev pub greedy : CostingTree → (threshold : ℕ) → (points : List (List ℕ)) → List PlanTree
greedy costing threshold points =
    greedy_turns costing threshold (map (best_plan costing) points) (length points) points
