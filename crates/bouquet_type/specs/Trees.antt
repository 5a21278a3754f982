-- Bouquets as plain data, and what holds of each.
use Rattle.std.specs.Prelude.{◌≡◌, ℕ, ◌≤◌, All, List, length, map}
use Rattle.sql_values.specs.Limits.{max_points, max_threshold, max_contours, max_contour_cost}
use Rattle.query_block.specs.Blocks.{BlockTree}
use Rattle.plan_tree.specs.Plans.{PlanTree, plan_tree}
use Rattle.plan_tree.specs.Enumerated.{IsPlan}
use Rattle.ess_grid.specs.Points.{points_of}
use Rattle.cost_model.specs.Costing.{CostingTree, IsCosting, costing_tree}
use Rattle.cost_model.specs.Frontier.{frontier}
use Rattle.cost_model.specs.Optimal.{optimal_cost}
use Rattle.bouquet_type.specs.declared.contour.Contour.{Contour}
use Rattle.bouquet_type.specs.declared.outline.Outline.{Outline}
use Rattle.bouquet_type.specs.Shapes.{BouquetShape}

-- a contour: its cost, and the plans that are tried on it, in order
pub record ContourTree : Type 0 where
  pub cost : ℕ
  pub plans : List PlanTree

abbrev pub contour_tree : Contour → ContourTree
contour_tree contour = record { cost = contour.cost; plans = map plan_tree contour.plans.items }

-- a bouquet: what its costs depend on, its threshold in percent, and its contours, the cheapest first
pub record BouquetTree : Type 0 where
  pub costing : CostingTree
  pub threshold : ℕ
  pub contours : List ContourTree

abbrev pub bouquet_tree : BouquetShape → BouquetTree
bouquet_tree bouquet = record {
  costing = costing_tree (record { block = bouquet.block; stats = bouquet.stats; grid = bouquet.grid });
  threshold = bouquet.threshold;
  contours = map contour_tree bouquet.contours;
}

-- a contour of a block: some plans of the block, no more than a grid has points
pub record IsContour (block : BlockTree) (contour : Contour) : Type 0 where
  pub cost : contour.cost ≤ max_contour_cost
  pub some : 1 ≤ length contour.plans.items
  pub few : length contour.plans.items ≤ max_points
  pub plans : All (λ p. IsPlan block (plan_tree p)) contour.plans.items

-- what holds of every bouquet
pub record IsBouquet (bouquet : BouquetShape) : Type 0 where
  pub costing : IsCosting (bouquet_tree bouquet).costing
  pub threshold : bouquet.threshold ≤ max_threshold
  pub some : 1 ≤ length bouquet.contours
  pub few : length bouquet.contours ≤ max_contours
  pub contours : All (IsContour (bouquet_tree bouquet).costing.block) bouquet.contours

-- the optimal cost at each point of its grid, and for each contour the points of its frontier, in the grid's order
pub record IsOutline (bouquet : BouquetTree) (outline : Outline) : Type 0 where
  pub costs : outline.costs.items ≡ map (optimal_cost bouquet.costing) (points_of bouquet.costing.grid)
  pub frontiers : map (λ points. points.items) outline.frontiers.items ≡ map (λ contour. frontier bouquet.costing contour.cost) bouquet.contours
