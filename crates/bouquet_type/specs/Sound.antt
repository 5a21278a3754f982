-- Sound bouquets: those for which the bound on work holds. Every compiled one is sound, and others may be.
use Rattle.std.specs.Prelude.{◌≡◌, ℕ, ◌*◌, ◌≤◌, All, Contains, List, [], ◌∷◌}
use Rattle.ess_grid.specs.Points.{IsPoint, bottom_of, top_of}
use Rattle.plan_tree.specs.Plans.{PlanTree}
use Rattle.cost_model.specs.Costing.{CostingTree}
use Rattle.cost_model.specs.Costs.{cost_of}
use Rattle.cost_model.specs.Optimal.{optimal_cost}
use Rattle.bouquet_type.specs.Trees.{BouquetTree, ContourTree}
use Rattle.bouquet_type.specs.Budgets.{budget_of}

-- the costs of the first contour and of the last
abbrev pub first_cost : List ContourTree → ℕ
first_cost [] = 0
first_cost (contour ∷ more) = contour.cost

abbrev pub last_cost : List ContourTree → ℕ
last_cost [] = 0
last_cost (contour ∷ []) = contour.cost
last_cost (contour ∷ next ∷ more) = last_cost (next ∷ more)

-- each cost is twice the one before
abbrev pub AreDoubled : List ContourTree → Type 0
AreDoubled (contour ∷ next ∷ more) = (next.cost ≡ 2 * contour.cost) × AreDoubled (next ∷ more)
AreDoubled contours = Unit {0}

-- some plan of the contour is within the contour's budget at a point
abbrev pub FitsAt : CostingTree → (threshold : ℕ) → (point : List ℕ) → ContourTree → Type 0
FitsAt costing threshold point contour =
    (p : PlanTree) × Contains contour.plans p × (cost_of costing p point ≤ budget_of threshold contour.cost)

-- costs that begin at most at the bottom's optimal cost, double, and end at least at the top's; and at every point some plan
-- fits on each contour that costs at least the optimal cost there
pub record IsSound (bouquet : BouquetTree) : Type 0 where
  pub first : first_cost bouquet.contours ≤ optimal_cost bouquet.costing (bottom_of bouquet.costing.grid)
  pub doubled : AreDoubled bouquet.contours
  pub last : optimal_cost bouquet.costing (top_of bouquet.costing.grid) ≤ last_cost bouquet.contours
  pub covered : (point : List ℕ) → IsPoint bouquet.costing.grid point → All (λ contour. optimal_cost bouquet.costing point ≤ contour.cost → FitsAt bouquet.costing bouquet.threshold point contour) bouquet.contours
