-- The counts of a block's tables at a point of the grid. How many rows a conjunct with a parameter keeps isn't counted: that
-- is the selectivity on its relation's axis.
use Rattle.std.specs.Prelude.{ℕ, ◌+◌, ◌*◌, ◌&&◌, Bool, List, [], ◌∷◌, map, slice_index, Option, Some, None, option_map, if◌then◌else◌}
use Rattle.std.specs.Int.{div_ceil}
use Rattle.std.specs.List.{list_any}
use Rattle.ess_grid.specs.Levels.{full_selectivity, selectivity_of}
use Rattle.ess_grid.specs.Points.{GridShape}
use Rattle.query_block.specs.Parameters.{is_open}
use Rattle.query_block.specs.Blocks.{RelationTree, BlockTree, relation_at, axis_of}
use Rattle.plan_tree.specs.Usable.{is_usable}
use Rattle.cost_model.specs.declared.stats.Stats.{Stats}
use Rattle.cost_model.specs.declared.stats.RelationStats.{RelationStats}
use Rattle.cost_model.specs.declared.stats.IndexStats.{IndexStats}
use Rattle.cost_model.specs.Costing.{CostingTree}

-- a number of rows times a selectivity, rounded up
abbrev pub scaled : (rows selectivity : ℕ) → ℕ
scaled rows selectivity = div_ceil (rows * selectivity) full_selectivity

-- a number of rows, scaled by the selectivity of a point on an axis; all of them without an axis
abbrev pub scaled_on : GridShape → (point : List ℕ) → (axis : Option ℕ) → (rows : ℕ) → ℕ
scaled_on grid point None rows = rows
scaled_on grid point (Some axis) rows = scaled rows (selectivity_of grid.levels (slice_index point axis))

-- some conjunct that an index on the column can use is open
abbrev pub has_open_usable : RelationTree → (column : ℕ) → Bool
has_open_usable relation column =
    list_any (λ conjunct. is_usable relation.columns column conjunct && is_open conjunct) relation.filter

-- the axis of the rows that an index on a column finds: its relation's, if such a conjunct is open
abbrev pub axis_of_index : BlockTree → (relation column : ℕ) → Option ℕ
axis_of_index block relation column =
    if has_open_usable (relation_at block.relations relation) column then axis_of block relation else None

-- the counts of an indexed column of this relation at a point
abbrev pub index_stats_at : CostingTree → (point : List ℕ) → (relation : ℕ) → IndexStats → IndexStats
index_stats_at costing point relation index = record {
  column = index.column;
  height = index.height;
  matches = option_map (scaled_on costing.grid point (axis_of_index costing.block relation index.column)) index.matches;
}

-- those of some relations, of which the first has this number: rows and pages are what they are
abbrev pub stats_from : CostingTree → (point : List ℕ) → (number : ℕ) → List RelationStats → List RelationStats
stats_from costing point number [] = []
stats_from costing point number (stats ∷ more) =
    record {
      rows = stats.rows;
      pages = stats.pages;
      kept = scaled_on costing.grid point (axis_of costing.block number) stats.kept;
      columns = map (index_stats_at costing point number) stats.columns;
    }
    ∷ stats_from costing point (number + 1) more

-- those of all relations of the block
abbrev pub stats_at : CostingTree → (point : List ℕ) → Stats
stats_at costing point = record { relations = stats_from costing point 0 costing.stats.relations }
