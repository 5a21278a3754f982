-- Compiled bouquets are sound.
use Rattle.std.proofs.Common.{◌≡◌, ◌∙◌, ℕ, ◌+◌, ◌-◌, ◌≤◌, List, Contains, length, get_or, ap, sym, subst, arith}
use Rattle.std.proofs.lemmas.Grind.{common_steps}
use Rattle.std.proofs.Math.Nat.{mul-le-mul_left}
use Rattle.ess_grid.specs.Points.{IsPoint}
use Rattle.plan_tree.specs.Plans.{PlanTree}
use Rattle.plan_tree.specs.Enumerated.{IsPlan}
use Rattle.cost_model.specs.Costing.{CostingTree, IsCosting}
use Rattle.cost_model.specs.Costs.{cost_of}
use Rattle.cost_model.specs.Optimal.{optimal_cost}
use Rattle.cost_model.specs.Frontier.{frontier}
use Rattle.cost_model.specs.Greedy.{greedy, CoversAt}
use Rattle.cost_model.proofs.Covers.{greedy-covers}
use Rattle.bouquet_type.specs.Trees.{ContourTree, BouquetTree}
use Rattle.bouquet_type.specs.Budgets.{budget_of, contour_cost}
use Rattle.bouquet_type.specs.Compiled.{IsCompiled}
use Rattle.bouquet_type.specs.Sound.{FitsAt, IsSound}
use Rattle.bouquet_type.proofs.Doubling.{first-numbered, doubled-numbered, last-numbered}
use Rattle.bouquet_type.proofs.FitsBelow.{fits-below, frontier-within}
use Rattle.bouquet_type.proofs.SomePlan.{some-plan}

-- a plan that covers a point within a contour's cost is within the contour's budget there
pub covered-within : (costing : CostingTree) (threshold cost : ℕ) (p : PlanTree) (other : List ℕ) → CoversAt costing threshold p other → optimal_cost costing other ≤ cost
    → cost_of costing p other ≤ budget_of threshold cost
covered-within costing threshold cost p other covers within = grind (arith, common_steps, mul-le-mul_left)

-- a contour with the plans that greedy reduction takes for its frontier has one within its budget
fits-at : (costing : CostingTree) (threshold : ℕ) (plan : PlanTree) (point : List ℕ) (contour : ContourTree) → IsCosting costing → IsPlan costing.block plan
    → IsPoint costing.grid point → contour.plans ≡ greedy costing threshold (frontier costing contour.cost) → optimal_cost costing point ≤ contour.cost
    → FitsAt costing threshold point contour
fits-at costing threshold plan point contour is is_plan is_point plans =
    fits-below costing threshold point contour is.grid is_point (
    λ other on.
    let taken = greedy-covers costing plan threshold (frontier costing contour.cost) other is_plan on in (
      taken.0,
      subst (λ all. Contains all taken.0) (sym plans) taken.1,
      covered-within costing threshold contour.cost taken.0 other taken.2 (frontier-within costing contour.cost other on),
    )
    )

pub are-sound : (bouquet : BouquetTree) → IsCosting bouquet.costing → IsCompiled bouquet → IsSound bouquet
are-sound bouquet is compiled =
    let plan = some-plan bouquet.costing.block is.block in
    let contours = bouquet.contours in
    let last = last-numbered bouquet.costing 1 contours (omega arith) compiled.some compiled.costs in
    let place : 1 + length contours - 1 ≡ length contours = omega arith in
    record {
      first = first-numbered bouquet.costing contours compiled.costs;
      doubled = doubled-numbered bouquet.costing 1 contours (omega arith) compiled.costs;
      last = omega (arith, compiled.last, last ∙ ap (contour_cost bouquet.costing) place);
      covered = λ point is_point k d there within.
          fits-at bouquet.costing bouquet.threshold plan.0 point (get_or contours k d) is plan.1 is_point (compiled.plans k d there) within;
    }
