-- The costs of contours, the budgets on them, and how many plans share one.
use Rattle.std.specs.Prelude.{ℕ, ◌+◌, ◌-◌, ◌*◌, ◌/◌, ◌^◌, max, List, [], ◌∷◌, length}
use Rattle.ess_grid.specs.Points.{bottom_of}
use Rattle.cost_model.specs.Costing.{CostingTree}
use Rattle.cost_model.specs.Optimal.{optimal_cost}
use Rattle.bouquet_type.specs.Trees.{ContourTree}

-- the cost of the contour of this number, from 1: the optimal cost at the bottom, doubled from contour to contour
abbrev pub contour_cost : CostingTree → (number : ℕ) → ℕ
contour_cost costing number = optimal_cost costing (bottom_of costing.grid) * 2 ^ (number - 1)

-- the budget of an execution on a contour of this cost: so many percent more, rounded down
abbrev pub budget_of : (threshold cost : ℕ) → ℕ
budget_of threshold cost = cost * (100 + threshold) / 100

-- the most plans that a contour has
abbrev pub most_plans : List ContourTree → ℕ
most_plans [] = 0
most_plans (contour ∷ more) = max (length contour.plans) (most_plans more)
