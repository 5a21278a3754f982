-- What is seen of a bouquet.
use Rattle.std.specs.Prelude.{ℕ, ◌-◌, List, map, slice_index}
use Rattle.query_block.specs.Shape.{BlockShape}
use Rattle.ess_grid.specs.Points.{GridShape}
use Rattle.cost_model.specs.declared.stats.Stats.{Stats}
use Rattle.bouquet_type.specs.declared.contour.Contour.{Contour}

pub record BouquetShape : Type 0 where
  pub block : BlockShape
  pub stats : Stats
  pub grid : GridShape
  pub threshold : ℕ
  pub contours : List Contour

-- the bouquet of these parts
abbrev pub bouquet_shape : BlockShape → Stats → GridShape → (threshold : ℕ) → List Contour → BouquetShape
bouquet_shape block stats grid threshold contours =
    record { block = block; stats = stats; grid = grid; threshold = threshold; contours = contours }

-- the cost of the contour of this number, from 1
abbrev pub cost_on : BouquetShape → (number : ℕ) → ℕ
cost_on bouquet number = slice_index (map (λ contour. contour.cost) bouquet.contours) (number - 1)
