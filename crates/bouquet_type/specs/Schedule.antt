-- In which order a bouquet's plans are executed, and by which budgets.
use Rattle.std.specs.Prelude.{ℕ, ◌+◌, ◌++◌, List, [], ◌∷◌}
use Rattle.plan_tree.specs.Plans.{PlanTree, Scan}
use Rattle.bouquet_type.specs.Trees.{BouquetTree, ContourTree}
use Rattle.bouquet_type.specs.Budgets.{budget_of}

-- an execution under a budget: its plan, the budget, the contour's number, from 1, the plan's place among those of the contour,
-- from 1, and what the contour costs
pub record Member : Type 0 where
  pub plan : PlanTree
  pub budget : ℕ
  pub contour : ℕ
  pub place : ℕ
  pub cost : ℕ

-- those on a contour, of which the first has this place
abbrev pub members_on : (budget contour cost place : ℕ) → List PlanTree → List Member
members_on budget contour cost place [] = []
members_on budget contour cost place (p ∷ more) =
    record { plan = p; budget = budget; contour = contour; place = place; cost = cost } ∷ members_on budget contour cost (place + 1) more

-- those of contours of which the first has this number
abbrev pub members_from : (threshold number : ℕ) → List ContourTree → List Member
members_from threshold number [] = []
members_from threshold number (contour ∷ more) =
    members_on (budget_of threshold contour.cost) number contour.cost 1 contour.plans ++ members_from threshold (number + 1) more

-- the executions under budgets, in order
abbrev pub schedule : BouquetTree → List Member
schedule bouquet = members_from bouquet.threshold 1 bouquet.contours

-- the last of some plans, and the last plan of the last contour: it is executed without a budget where no other one is done
abbrev pub last_plan : List PlanTree → PlanTree
last_plan [] = Scan 0
last_plan (p ∷ []) = p
last_plan (p ∷ other ∷ more) = last_plan (other ∷ more)

abbrev pub final_of : List ContourTree → PlanTree
final_of [] = Scan 0
final_of (contour ∷ []) = last_plan contour.plans
final_of (contour ∷ next ∷ more) = final_of (next ∷ more)

abbrev pub final_plan : BouquetTree → PlanTree
final_plan bouquet = final_of bouquet.contours
