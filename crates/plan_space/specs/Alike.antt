-- When what was found for a set at one point serves at another one, and the tables of many points.
use Rattle.std.specs.Prelude.{◌≡◌, ℕ, ◌^◌, ◌<◌, Bool, false, Option, Some, IsTrue, List, [], length, slice_index_or}
use Rattle.ess_grid.specs.Points.{point_at, points_of}
use Rattle.query_block.specs.Blocks.{BlockTree, axis_of, axis_of_edge, block_tree}
use Rattle.query_block.specs.Meaning.{is_inside}
use Rattle.plan_tree.specs.Enumerated.{edge_at}
use Rattle.plan_tree.specs.Sets.{set_of}
use Rattle.cost_model.specs.Costing.{CostingShape}
use Rattle.cost_model.specs.Alike.{IsAlike}
use Rattle.plan_space.specs.declared.entry.Entry.{Entry}
use Rattle.plan_space.specs.KeptRows.{kept_row_at}
use Rattle.plan_space.specs.Table.{AreLeast}
use Rattle.cost_model.specs.Pricing.{Pricing}
use Rattle.cost_model.specs.Prices.{own_at, block_at}

-- the point of the grid at this place is alike for a set: then each plan of the set costs the same at both
pub record IsAlikePlace (at : Pricing) (set place : ℕ) : Type 0 where
  pub other : List ℕ
  pub there : point_at at.costing.grid place ≡ Some other
  pub alike : IsAlike (block_at at) (set_of set) other at.point

-- the axes of the edges inside a set are marked
abbrev pub MarksEdges : BlockTree → (set : ℕ) → List Bool → Type 0
MarksEdges block set inside =
    (edge : ℕ) → edge < length block.edges → IsTrue (is_inside (set_of set) (edge_at block.edges edge))
    → IsTrue (slice_index_or inside (axis_of_edge edge) false)

-- the axis of a relation is marked, if it is in the set and has one
abbrev pub MarksRelation : BlockTree → (set relation : ℕ) → List Bool → Type 0
MarksRelation block set relation inside =
    (axis : ℕ) → IsTrue (set_of set relation) → axis_of block relation ≡ Some axis → IsTrue (slice_index_or inside axis false)

-- the axes inside a set are marked: those of the edges inside it, and those of its relations
pub record AreInside (block : BlockTree) (set : ℕ) (inside : List Bool) : Type 0 where
  pub edges : MarksEdges block set inside
  pub relations : (relation : ℕ) → relation < length block.relations → MarksRelation block set relation inside

-- the same for all sets
abbrev pub AreInsideSets : BlockTree → List (List Bool) → Type 0
AreInsideSets block inside = (set : ℕ) → set < 64 → AreInside block set (slice_index_or inside set [])

-- the entries of a row are least at a point
abbrev pub LeastAt : CostingShape → List Entry → (point : List ℕ) → Type 0
LeastAt costing row point =
    AreLeast (own_at (record { costing = costing; point = point })) (block_tree costing.block) row (2 ^ length (block_tree costing.block).relations)

-- the rows that are kept are least at the points of their places
abbrev pub AreLeastRows : CostingShape → List (Option (List Entry)) → Type 0
AreLeastRows costing rows =
    (place : ℕ) (point : List ℕ) (row : List Entry) → kept_row_at rows place ≡ Some row → point_at costing.grid place ≡ Some point
    → LeastAt costing row point

-- what is known of points that were asked for earlier: which axes are inside which sets, and their rows
pub record AreEarlier (costing : CostingShape) (inside : List (List Bool)) (rows : List (Option (List Entry))) : Type 0 where
  pub axes : AreInsideSets (block_tree costing.block) inside
  pub tables : AreLeastRows costing rows

-- what is known of points of the grid, with a place for each of them
pub record AreEarlierPoints (costing : CostingShape) (inside : List (List Bool)) (rows : List (Option (List Entry))) : Type 0 where
  pub earlier : AreEarlier costing inside rows
  pub places : length rows ≡ length (points_of costing.grid)
