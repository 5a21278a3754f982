-- The compiled bouquet of a block, by its counts, a grid and a threshold.
use Rattle.std.specs.Prelude.{◌≡◌, ℕ, ◌+◌, ◌<◌, ◌≤◌, nat_lt, List, All, length, map}
use Rattle.std.specs.List.{count_by, range_with_len}
use Rattle.sql_values.specs.Limits.{max_contours}
use Rattle.ess_grid.specs.Points.{top_of}
use Rattle.cost_model.specs.Costing.{CostingTree}
use Rattle.cost_model.specs.Optimal.{optimal_cost}
use Rattle.cost_model.specs.Frontier.{frontier}
use Rattle.cost_model.specs.Greedy.{greedy}
use Rattle.bouquet_type.specs.Trees.{BouquetTree, ContourTree}
use Rattle.bouquet_type.specs.Budgets.{contour_cost}

-- its contours have the defined costs, up to the first that is at least the optimal cost at the top; each has the plans
-- that greedy reduction takes for its frontier
pub record IsCompiled (bouquet : BouquetTree) : Type 0 where
  pub some : 1 ≤ length bouquet.contours
  pub costs : map (λ contour. contour.cost) bouquet.contours ≡ map (contour_cost bouquet.costing) (range_with_len 1 (length bouquet.contours))
  pub below : (number : ℕ) → 1 ≤ number → number < length bouquet.contours → contour_cost bouquet.costing number < optimal_cost bouquet.costing (top_of bouquet.costing.grid)
  pub last : optimal_cost bouquet.costing (top_of bouquet.costing.grid) ≤ contour_cost bouquet.costing (length bouquet.contours)
  pub plans : All (λ contour. contour.plans ≡ greedy bouquet.costing bouquet.threshold (frontier bouquet.costing contour.cost)) bouquet.contours

-- how many contours are needed: one, and one more for each number, from 1, whose cost is below the optimal cost at the top;
-- what plans of a block cost is at least 1 and below `cost_bound`, so as many numbers as a bouquet may have contours are enough
unfoldable pub contour_count : CostingTree → ℕ
contour_count costing = 1 + count_by (λ number. nat_lt (contour_cost costing number) (optimal_cost costing (top_of costing.grid))) (range_with_len 1 max_contours)

-- the costs of so many contours
abbrev pub contour_costs : CostingTree → List ℕ
contour_costs costing = map (contour_cost costing) (range_with_len 1 (contour_count costing))

-- the contour of this cost, with the plans that greedy reduction takes for its frontier
abbrev pub compiled_contour : CostingTree → (threshold cost : ℕ) → ContourTree
compiled_contour costing threshold cost = record { cost = cost; plans = greedy costing threshold (frontier costing cost) }

-- the compiled bouquet: there is no other one of at most so many contours as a bouquet may have
unfoldable pub compiled : CostingTree → (threshold : ℕ) → BouquetTree
compiled costing threshold = record {
  costing = costing;
  threshold = threshold;
  contours = map (compiled_contour costing threshold) (contour_costs costing);
}
