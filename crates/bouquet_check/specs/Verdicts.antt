-- The verdict on a bouquet: whether it is sound, and where it isn't what it breaks first.
use Rattle.std.specs.Prelude.{ℕ, ◌+◌, ◌*◌, not, nat_eq, nat_le, nat_lt, Bool, List, [], ◌∷◌, Option, Some, None, find, if◌then◌else◌}
use Rattle.std.specs.List.{list_any}
use Rattle.std.specs.Option.{option_map_or}
use Rattle.ess_grid.specs.Points.{bottom_of, top_of}
use Rattle.plan_tree.specs.Plans.{PlanTree}
use Rattle.cost_model.specs.Costing.{CostingTree}
use Rattle.cost_model.specs.Costs.{cost_of}
use Rattle.cost_model.specs.Optimal.{optimal_cost}
use Rattle.cost_model.specs.Frontier.{frontier}
use Rattle.bouquet_type.specs.Trees.{BouquetTree, ContourTree}
use Rattle.bouquet_type.specs.Budgets.{budget_of}
use Rattle.bouquet_type.specs.Sound.{first_cost, last_cost}
use Rattle.bouquet_check.specs.declared.verdict.Verdict.{Verdict}
use Rattle.bouquet_check.specs.declared.verdict.Verdict.TheVariants as code

-- the first contour costs too much; this contour doesn't cost twice what the one before does; the last one costs too little;
-- no plan of this contour is within its budget at this point; or the bouquet is sound. Contours are numbered from 1
pub data VerdictTree : Type 0 where
  First : VerdictTree
  Step : (contour : ℕ) → VerdictTree
  Last : VerdictTree
  Uncovered : (contour : ℕ) → (point : List ℕ) → VerdictTree
  Sound : VerdictTree

abbrev pub verdict_tree : Verdict → VerdictTree
verdict_tree code.First = First
verdict_tree (code.Step contour) = Step contour
verdict_tree code.Last = Last
verdict_tree (code.Uncovered contour point) = Uncovered contour point
verdict_tree code.Sound = Sound

-- the first of some contours that doesn't cost twice what the one before does; the first of them all has this number
abbrev pub wrong_step : (number : ℕ) → List ContourTree → Option ℕ
wrong_step number (contour ∷ next ∷ more) =
    if nat_eq next.cost (2 * contour.cost) then wrong_step (number + 1) (next ∷ more) else Some (number + 1)
wrong_step number contours = None

-- whether one of some plans costs at most this budget at a point
abbrev pub fits_at : CostingTree → (budget : ℕ) → List PlanTree → (point : List ℕ) → Bool
fits_at costing budget plans point = list_any (λ p. nat_le (cost_of costing p point) budget) plans

-- the first point of the frontier of this cost at which none does
abbrev pub uncovered_point : CostingTree → (cost budget : ℕ) → List PlanTree → Option (List ℕ)
uncovered_point costing cost budget plans = find (λ point. not (fits_at costing budget plans point)) (frontier costing cost)

-- the first of some contours that has such a point, by its own budget and plans, and the first such point; the first of the
-- contours has this number
abbrev pub cover_verdict : CostingTree → (threshold number : ℕ) → List ContourTree → VerdictTree
cover_verdict costing threshold number [] = Sound
cover_verdict costing threshold number (contour ∷ more) =
    option_map_or (Uncovered number) (uncovered_point costing contour.cost (budget_of threshold contour.cost) contour.plans)
    (cover_verdict costing threshold (number + 1) more)

-- the first that applies
unfoldable pub verdict_of : BouquetTree → VerdictTree
verdict_of bouquet =
    let costing = bouquet.costing in
    let contours = bouquet.contours in
    if nat_lt (optimal_cost costing (bottom_of costing.grid)) (first_cost contours) then First
    else option_map_or Step (wrong_step 1 contours) (
    if nat_lt (last_cost contours) (optimal_cost costing (top_of costing.grid)) then Last
    else cover_verdict costing bouquet.threshold 1 contours
    )
