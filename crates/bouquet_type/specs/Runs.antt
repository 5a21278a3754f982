-- How a run goes that executes plans in order, where each plan's work is known: one fold over a schedule. And when the work
-- of plans is as the costs at a point say.
use Rattle.std.specs.Prelude.{ℕ, ◌+◌, ◌*◌, ◌≤◌, nat_le, List, [], ◌∷◌, if◌then◌else◌}
use Rattle.plan_tree.specs.Plans.{PlanTree}
use Rattle.plan_tree.specs.Enumerated.{IsPlan}
use Rattle.cost_model.specs.Costing.{CostingTree}
use Rattle.cost_model.specs.Costs.{cost_of}
use Rattle.bouquet_type.specs.Trees.{BouquetTree}
use Rattle.bouquet_type.specs.Schedule.{Member, schedule, final_plan}

-- the end of a run: the plan that was done, the work that all executions took together, how many there were, and the
-- contour of the last one, 0 for the final plan
pub record RunEnd : Type 0 where
  pub plan : PlanTree
  pub total : ℕ
  pub runs : ℕ
  pub contour : ℕ

-- the same end, behind so many executions more that spent so much and weren't done
abbrev pub end_behind : (spent runs : ℕ) → RunEnd → RunEnd
end_behind spent runs end = record { plan = end.plan; total = spent + end.total; runs = runs + end.runs; contour = end.contour }

-- the first member whose work is within its budget ends the run, and each before it spends its budget; where none does, the
-- final plan ends it
abbrev pub end_of : (work : PlanTree → ℕ) → List Member → (final : PlanTree) → RunEnd
end_of work [] final = record { plan = final; total = work final; runs = 1; contour = 0 }
end_of work (member ∷ more) final =
    if nat_le (work member.plan) member.budget then record { plan = member.plan; total = work member.plan; runs = 1; contour = member.contour }
    else end_behind member.budget 1 (end_of work more final)

abbrev pub run_end : BouquetTree → (work : PlanTree → ℕ) → RunEnd
run_end bouquet work = end_of work (schedule bouquet) (final_plan bouquet)

-- the work of the whole run
abbrev pub total_work : BouquetTree → (work : PlanTree → ℕ) → ℕ
total_work bouquet work = (run_end bouquet work).total

-- at this point no plan's work is more than its cost, and no plan's cost is more than a / b times its work
pub record CostPremise (costing : CostingTree) (point : List ℕ) (a b : ℕ) (work : PlanTree → ℕ) : Type 0 where
  pub some : 1 ≤ b
  pub within : (p : PlanTree) → IsPlan costing.block p → work p ≤ cost_of costing p point
  pub near : (p : PlanTree) → IsPlan costing.block p → b * cost_of costing p point ≤ a * work p
