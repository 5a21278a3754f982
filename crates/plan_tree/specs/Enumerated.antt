-- Which trees are plans of a block: all shapes, all orders and all products.
use Rattle.std.specs.Prelude.{ℕ, ◌<◌, Bool, List, IsTrue, IsFalse, length, nat_eq, slice_index_or, if◌then◌else◌}
use Rattle.std.specs.List.{list_any}
use Rattle.query_block.specs.declared.edge.Edge.{Edge}
use Rattle.query_block.specs.Blocks.{RelationTree, BlockTree, relation_at}
use Rattle.plan_tree.specs.Plans.{PlanTree, Scan, IndexScan, Nest, Hash, Merge, IndexLoop, leaves_of, has_leaf}
use Rattle.plan_tree.specs.Sets.{is_between}
use Rattle.plan_tree.specs.Usable.{is_usable}

-- the edge of this number, from 0
abbrev pub edge_at : List Edge → ℕ → Edge
edge_at edges number = slice_index_or edges number (record { left = 0; left_column = 0; right = 0; right_column = 0 })

-- the column of one of its relations that an edge compares
abbrev pub column_on : Edge → (relation : ℕ) → ℕ
column_on edge relation = if nat_eq relation edge.left then edge.left_column else edge.right_column

-- the column is indexed
abbrev pub is_indexed : RelationTree → (column : ℕ) → Bool
is_indexed relation column = list_any (λ other. nat_eq other column) relation.indexes

abbrev pub IsIndexed : RelationTree → (column : ℕ) → Type 0
IsIndexed relation column = IsTrue (is_indexed relation column)

-- some conjunct of the filter is usable on the column
abbrev pub has_usable : RelationTree → (column : ℕ) → Bool
has_usable relation column = list_any (is_usable relation.columns column) relation.filter

abbrev pub HasUsable : RelationTree → (column : ℕ) → Type 0
HasUsable relation column = IsTrue (has_usable relation column)

-- no relation is joined by both
abbrev pub AreApart : PlanTree → PlanTree → Type 0
AreApart left right = IsFalse (list_any (has_leaf right) (leaves_of left))

-- the edge exists and crosses the two sides
abbrev pub Crosses : List Edge → (edge : ℕ) → PlanTree → PlanTree → Type 0
Crosses edges edge left right = (edge < length edges) × IsTrue (is_between (has_leaf left) (has_leaf right) (edge_at edges edge))

-- an index on the column finds rows of the relation
pub record IsScannable (block : BlockTree) (relation column : ℕ) : Type 0 where
  pub exists : relation < length block.relations
  pub indexed : IsIndexed (relation_at block.relations relation) column
  pub usable : HasUsable (relation_at block.relations relation) column

-- the relation may be looked up for each row of the left side: an index on its column of the edge finds the rows
pub record IsLookUp (block : BlockTree) (edge : ℕ) (left : PlanTree) (relation : ℕ) : Type 0 where
  pub exists : relation < length block.relations
  pub apart : IsFalse (has_leaf left relation)
  pub crosses : Crosses block.edges edge left (Scan relation)
  pub indexed : IsIndexed (relation_at block.relations relation) (column_on (edge_at block.edges edge) relation)

-- a plan of some of the block's relations, each once
abbrev pub IsSubPlan : BlockTree → PlanTree → Type 0
IsSubPlan block (Scan relation) = relation < length block.relations
IsSubPlan block (IndexScan relation column) = IsScannable block relation column
IsSubPlan block (Nest left right) = IsSubPlan block left × IsSubPlan block right × AreApart left right
IsSubPlan block (Hash edge left right) =
    IsSubPlan block left × IsSubPlan block right × AreApart left right × Crosses block.edges edge left right
IsSubPlan block (Merge edge left right) =
    IsSubPlan block left × IsSubPlan block right × AreApart left right × Crosses block.edges edge left right
IsSubPlan block (IndexLoop edge left relation) = IsSubPlan block left × IsLookUp block edge left relation

-- a plan of the block: it joins all of its relations
pub record IsPlan (block : BlockTree) (p : PlanTree) : Type 0 where
  pub nodes : IsSubPlan block p
  pub whole : (relation : ℕ) → relation < length block.relations → IsTrue (has_leaf p relation)
