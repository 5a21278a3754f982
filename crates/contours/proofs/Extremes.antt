-- The least and the greatest optimal cost.
use Rattle.std.proofs.Common.{ℕ, ◌^◌, ◌<◌, ◌≤◌, List, arith}
use Rattle.plan_tree.specs.Plans.{PlanTree, Scan, IndexScan, Nest, Hash, Merge, IndexLoop}
use Rattle.cost_model.specs.Costing.{CostingTree, IsCosting}
use Rattle.cost_model.specs.Costs.{cost_of}
use Rattle.cost_model.specs.Optimal.{optimal_cost, best_plan}
use Rattle.cost_model.proofs.Bounds.{cost-below}
use Rattle.cost_model.proofs.Least.{optimal-least, optimal-cheapest}
use Rattle.cost_model.proofs.BestPlans.{best-there}
use Rattle.bouquet_type.proofs.SomePlan.{some-plan}

-- each plan reads a table
cost-some : (costing : CostingTree) (p : PlanTree) (point : List ℕ) → 1 ≤ cost_of costing p point
cost-some costing (Scan relation) point = omega arith
cost-some costing (IndexScan relation column) point = omega arith
cost-some costing (Nest left right) point = omega (arith, cost-some costing left point)
cost-some costing (Hash edge left right) point = omega (arith, cost-some costing left point)
cost-some costing (Merge edge left right) point = omega (arith, cost-some costing left point)
cost-some costing (IndexLoop edge left relation) point = omega (arith, cost-some costing left point)

pub optimal-some : (costing : CostingTree) (point : List ℕ) → IsCosting costing → 1 ≤ optimal_cost costing point
optimal-some costing point is =
    let plan = some-plan costing.block is.block in
    let best = best-there costing plan.0 point plan.1 in
    omega (arith, cost-some costing (best_plan costing point) point, optimal-cheapest costing (best_plan costing point) point best.cheapest)

pub optimal-below : (costing : CostingTree) (point : List ℕ) → IsCosting costing → optimal_cost costing point < 2 ^ 113
optimal-below costing point is =
    let plan = some-plan costing.block is.block in
    omega (arith, optimal-least costing plan.0 point plan.1, cost-below costing plan.0 point is plan.1.nodes)
