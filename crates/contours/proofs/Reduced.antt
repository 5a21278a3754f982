-- The plans that greedy reduction takes for the frontier of a contour.
use Rattle.std.proofs.Common.{◌<◌, ◌≤◌, ℕ, List, Contains, length, get_or, sym, subst, arith}
use Rattle.std.specs.Prelude.{All}
use Rattle.std.proofs.lemmas.List.{length-replicate}
use Rattle.std.proofs.lemmas.List.Elements.{All-replicate, Contains-get_or}
use Rattle.sql_values.specs.Limits.{max_points}
use Rattle.ess_grid.specs.Points.{bottom_of, IsPoint}
use Rattle.plan_tree.specs.Plans.{PlanTree}
use Rattle.plan_tree.specs.Enumerated.{IsPlan}
use Rattle.cost_model.specs.Costing.{CostingTree, IsCosting}
use Rattle.cost_model.specs.Optimal.{optimal_cost}
use Rattle.cost_model.specs.Frontier.{frontier}
use Rattle.cost_model.specs.Greedy.{greedy}
use Rattle.cost_model.proofs.BestPlans.{best-there}
use Rattle.cost_model.proofs.Frontiers.{frontier-above, frontier-few}
use Rattle.cost_model.proofs.Covers.{greedy-covers, greedy-best, greedy-few}
use Rattle.bouquet_type.proofs.SomePlan.{some-plan}

contained-some : {X : Type 0} (xs : List X) (x : X) → Contains xs x → 1 ≤ length xs
contained-some xs x is = omega (arith, is.1)

IsPoint-bottom : (costing : CostingTree) → IsCosting costing → IsPoint costing.grid (bottom_of costing.grid)
IsPoint-bottom costing is = record {
  axes = length-replicate costing.grid.axes 0;
  levels = All-replicate (λ level. level < costing.grid.levels) costing.grid.axes 0 (omega (arith, is.grid.some_levels));
}

-- it takes some plan
pub reduced-some : (costing : CostingTree) (threshold cost : ℕ) → IsCosting costing → optimal_cost costing (bottom_of costing.grid) ≤ cost → 1 ≤ length (greedy costing threshold (frontier costing cost))
reduced-some costing threshold cost is within =
    let plan = some-plan costing.block is.block in
    let above = frontier-above costing cost (bottom_of costing.grid) is.grid (IsPoint-bottom costing is) within in
    let taken = greedy-covers costing plan.0 threshold (frontier costing cost) above.0 plan.1 above.1 in
    contained-some (greedy costing threshold (frontier costing cost)) taken.0 taken.1

pub reduced-few : (costing : CostingTree) (threshold cost : ℕ) → IsCosting costing → length (greedy costing threshold (frontier costing cost)) ≤ max_points
reduced-few costing threshold cost is = omega (arith, greedy-few costing threshold (frontier costing cost), frontier-few costing cost is.grid)

greedy-plan : (costing : CostingTree) (threshold cost : ℕ) (p : PlanTree) → IsCosting costing → Contains (greedy costing threshold (frontier costing cost)) p → IsPlan costing.block p
greedy-plan costing threshold cost p is taken =
    let plan = some-plan costing.block is.block in
    let at = greedy-best costing threshold (frontier costing cost) p taken in
    subst (IsPlan costing.block) (sym at.2) (best-there costing plan.0 at.0 plan.1).cheapest.plan

-- and plans of the block alone
pub reduced-plans : (costing : CostingTree) (threshold cost : ℕ) → IsCosting costing → All (IsPlan costing.block) (greedy costing threshold (frontier costing cost))
reduced-plans costing threshold cost is =
    let taken = greedy costing threshold (frontier costing cost) in
    λ k d there. greedy-plan costing threshold cost (get_or taken k d) is (Contains-get_or taken k d there)
