-- Cards: how many rows each set of relations is taken to give at a point of the grid.
use Rattle.std.specs.Prelude.{ℕ, ◌+◌, ◌*◌, List, [], ◌∷◌, slice_index, if◌then◌else◌}
use Rattle.ess_grid.specs.Levels.{selectivity_of}
use Rattle.ess_grid.specs.Points.{GridShape}
use Rattle.query_block.specs.declared.edge.Edge.{Edge}
use Rattle.query_block.specs.Blocks.{axis_of_edge}
use Rattle.query_block.specs.Meaning.{RelationSet, is_inside}
use Rattle.cost_model.specs.declared.stats.RelationStats.{RelationStats}
use Rattle.cost_model.specs.Costing.{CostingTree}
use Rattle.cost_model.specs.AtPoint.{scaled, stats_at}

-- the selectivity of an edge at a point: that on its axis
abbrev pub selectivity_at : GridShape → (point : List ℕ) → (edge : ℕ) → ℕ
selectivity_at grid point edge = selectivity_of grid.levels (slice_index point (axis_of_edge edge))

-- the product of the filtered counts of a set's relations, of which the first has this number
abbrev pub kept_product : RelationSet → (number : ℕ) → List RelationStats → ℕ
kept_product set number [] = 1
kept_product set number (stats ∷ more) = (if set number then stats.kept else 1) * kept_product set (number + 1) more

-- rows, scaled by the selectivity of each edge inside a set, in ascending number; the first edge has this number
abbrev pub scaled_by_edges : GridShape → (point : List ℕ) → RelationSet → (number : ℕ) → List Edge → (rows : ℕ) → ℕ
scaled_by_edges grid point set number [] rows = rows
scaled_by_edges grid point set number (edge ∷ edges) rows =
    scaled_by_edges grid point set (number + 1) edges (if is_inside set edge then scaled rows (selectivity_at grid point number) else rows)

-- the card of a set of relations at a point
unfoldable pub card_of : CostingTree → RelationSet → (point : List ℕ) → ℕ
card_of costing set point =
    scaled_by_edges costing.grid point set 0 costing.block.edges (kept_product set 0 (stats_at costing point).relations)
