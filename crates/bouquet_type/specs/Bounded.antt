-- The bound on the work of a run.
use Rattle.std.specs.Prelude.{ℕ, ◌+◌, ◌*◌, ◌≤◌, List}
use Rattle.ess_grid.specs.Points.{IsPoint}
use Rattle.plan_tree.specs.Plans.{PlanTree}
use Rattle.plan_tree.specs.Enumerated.{IsPlan}
use Rattle.bouquet_type.specs.Trees.{BouquetTree}
use Rattle.bouquet_type.specs.Budgets.{most_plans}
use Rattle.bouquet_type.specs.Sound.{IsSound}
use Rattle.bouquet_type.specs.Runs.{CostPremise}

-- the work of a whole run is within the bound: where the works of plans are as the costs at some point of the grid say, but
-- for a factor of a / b, it is at most 4 * a / b * (1 + threshold / 100) times the most plans of a contour times the work of
-- any plan of the block
abbrev pub IsWithinBound : BouquetTree → (work : PlanTree → ℕ) → (total : ℕ) → Type 0
IsWithinBound bouquet work total =
    (point : List ℕ) (a b : ℕ) (p : PlanTree) → IsPoint bouquet.costing.grid point
    → CostPremise bouquet.costing point a b work → IsPlan bouquet.costing.block p
    → 100 * b * total ≤ 4 * a * (100 + bouquet.threshold) * most_plans bouquet.contours * work p

-- it is where the bouquet is sound
abbrev pub MeetsBound : BouquetTree → (work : PlanTree → ℕ) → (total : ℕ) → Type 0
MeetsBound bouquet work total = IsSound bouquet → IsWithinBound bouquet work total
