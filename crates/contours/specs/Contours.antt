-- The contours of a compiled bouquet.
use Rattle.std.specs.Prelude.{◌≡◌, ℕ, ◌≤◌, All, List, length, map}
use Rattle.sql_values.specs.Limits.{max_contours}
use Rattle.cost_model.specs.Costing.{CostingShape, CostingTree, costing_tree}
use Rattle.bouquet_type.specs.declared.contour.Contour.{Contour}
use Rattle.bouquet_type.specs.Shapes.{BouquetShape}
use Rattle.bouquet_type.specs.Trees.{BouquetTree, IsContour, bouquet_tree, contour_tree}
use Rattle.bouquet_type.specs.Compiled.{IsCompiled, compiled}
use Rattle.bouquet_type.specs.Sound.{IsSound}

-- a bouquet by its contours
abbrev pub bouquet_of : CostingTree → (threshold : ℕ) → List Contour → BouquetTree
bouquet_of costing threshold contours = record { costing = costing; threshold = threshold; contours = map contour_tree contours }

-- contours that make the compiled bouquet
pub record AreContours (costing : CostingTree) (threshold : ℕ) (contours : List Contour) : Type 0 where
  pub whole : bouquet_of costing threshold contours ≡ compiled costing threshold
  pub compiled : IsCompiled (bouquet_of costing threshold contours)
  pub sound : IsSound (bouquet_of costing threshold contours)
  pub few : length contours ≤ max_contours
  pub each : All (IsContour costing.block) contours

-- the compiled bouquet over just this block, these counts and this grid, by so many percent; it is sound
pub record IsCompiledOver (costing : CostingShape) (percent : ℕ) (bouquet : BouquetShape) : Type 0 where
  pub block : bouquet.block ≡ costing.block
  pub stats : bouquet.stats ≡ costing.stats
  pub grid : bouquet.grid ≡ costing.grid
  pub threshold : bouquet.threshold ≡ percent
  pub whole : bouquet_tree bouquet ≡ compiled (costing_tree costing) percent
  pub compiled : IsCompiled (bouquet_tree bouquet)
  pub sound : IsSound (bouquet_tree bouquet)
