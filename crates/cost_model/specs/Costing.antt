-- What costs depend on: a block, its counts and a grid.
use Rattle.std.specs.Prelude.{◌≡◌}
use Rattle.ess_grid.specs.Points.{GridShape, IsGrid}
use Rattle.query_block.specs.Shape.{BlockShape}
use Rattle.query_block.specs.Blocks.{BlockTree, axes_of, block_tree, IsBlock}
use Rattle.cost_model.specs.declared.stats.Stats.{Stats}
use Rattle.cost_model.specs.Fits.{FitsBlock}

-- what is seen of a costing
pub record CostingShape : Type 0 where
  pub block : BlockShape
  pub stats : Stats
  pub grid : GridShape

-- the same, the block as a tree
pub record CostingTree : Type 0 where
  pub block : BlockTree
  pub stats : Stats
  pub grid : GridShape

abbrev pub costing_tree : CostingShape → CostingTree
costing_tree costing = record { block = block_tree costing.block; stats = costing.stats; grid = costing.grid }

-- the counts fit the block, and the grid has its axes
pub record IsCosting (costing : CostingTree) : Type 0 where
  pub block : IsBlock costing.block
  pub grid : IsGrid costing.grid
  pub stats : FitsBlock costing.block costing.stats
  pub axes : costing.grid.axes ≡ axes_of costing.block
