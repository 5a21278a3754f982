-- What a costing keeps beside its parts: the axes on which the counts of its relations depend, and the columns whose indexes
-- find rows that depend on them.
use Rattle.std.specs.Prelude.{◌≡◌, ℕ, ◌<◌, Bool, false, List, [], Option, None, length, slice_index_or}
use Rattle.query_block.specs.Blocks.{RelationTree, BlockTree, relation_at, axis_of}
use Rattle.cost_model.specs.AtPoint.{has_open_usable}
use Rattle.cost_model.specs.Costing.{CostingTree, IsCosting}

-- the axis of each relation
abbrev pub AreAxes : BlockTree → List (Option ℕ) → Type 0
AreAxes block axes =
    (relation : ℕ) → relation < length block.relations → slice_index_or axes relation None ≡ axis_of block relation

-- for each column of a relation whether an index on it can use a conjunct with a parameter
abbrev pub AreOpenColumns : RelationTree → List Bool → Type 0
AreOpenColumns relation columns =
    (column : ℕ) → column < length relation.columns → slice_index_or columns column false ≡ has_open_usable relation column

-- the same for each relation
abbrev pub AreOpen : BlockTree → List (List Bool) → Type 0
AreOpen block columns =
    (relation : ℕ) → relation < length block.relations →
    AreOpenColumns (relation_at block.relations relation) (slice_index_or columns relation [])

-- a costing, and the axes and open columns of its block
pub record KeepsAxes (costing : CostingTree) (axes : List (Option ℕ)) (columns : List (List Bool)) : Type 0 where
  pub is_costing : IsCosting costing
  pub of_block : AreAxes costing.block axes
  pub of_columns : AreOpen costing.block columns
