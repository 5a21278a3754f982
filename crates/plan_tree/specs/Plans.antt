-- Plans as trees, without where they lie in memory, and the relations that they join.
use Rattle.std.specs.Prelude.{ℕ, ◌<◌, ◌^◌, Bool, List, [], ◌∷◌, ◌++◌, bit_or, nat_eq}
use Rattle.std.specs.List.{list_any}
use Rattle.plan_tree.specs.declared.plan.Plan.{Plan}
use Rattle.plan_tree.specs.declared.plan.Plan.TheOpen.{Plan-F}
use Rattle.plan_tree.specs.declared.plan.Plan.TheOpen as layer
use Rattle.plan_tree.specs.declared.plan.Plan.TheFolds.{fold-Plan}

-- a plan; relations, columns and edges by their numbers from 0
pub data PlanTree : Type 0 where
  Scan : (relation : ℕ) → PlanTree
  IndexScan : (relation : ℕ) → (column : ℕ) → PlanTree
  Nest : PlanTree → PlanTree → PlanTree
  Hash : (edge : ℕ) → PlanTree → PlanTree → PlanTree
  Merge : (edge : ℕ) → PlanTree → PlanTree → PlanTree
  IndexLoop : (edge : ℕ) → PlanTree → (relation : ℕ) → PlanTree

-- one node, with the trees of its sides in their places
abbrev pub node_tree : Plan-F PlanTree → PlanTree
node_tree (layer.Scan relation) = Scan relation
node_tree (layer.IndexScan relation column) = IndexScan relation column
node_tree (layer.Nest left right) = Nest left.value right.value
node_tree (layer.Hash edge left right) = Hash edge left.value right.value
node_tree (layer.Merge edge left right) = Merge edge left.value right.value
node_tree (layer.IndexLoop edge left relation) = IndexLoop edge left.value relation

-- the tree of a plan
abbrev pub plan_tree : Plan → PlanTree
plan_tree = fold-Plan PlanTree node_tree

-- the relations that a plan joins, from left to right
abbrev pub leaves_of : PlanTree → List ℕ
leaves_of (Scan relation) = relation ∷ []
leaves_of (IndexScan relation column) = relation ∷ []
leaves_of (Nest left right) = leaves_of left ++ leaves_of right
leaves_of (Hash edge left right) = leaves_of left ++ leaves_of right
leaves_of (Merge edge left right) = leaves_of left ++ leaves_of right
leaves_of (IndexLoop edge left relation) = leaves_of left ++ relation ∷ []

-- whether a relation is among them: the plan's set of relations
abbrev pub has_leaf : PlanTree → ℕ → Bool
has_leaf p relation = list_any (nat_eq relation) (leaves_of p)

-- the same set as a number: bit r for relation r
abbrev pub covers_of : PlanTree → ℕ
covers_of (Scan relation) = 2 ^ relation
covers_of (IndexScan relation column) = 2 ^ relation
covers_of (Nest left right) = bit_or (covers_of left) (covers_of right)
covers_of (Hash edge left right) = bit_or (covers_of left) (covers_of right)
covers_of (Merge edge left right) = bit_or (covers_of left) (covers_of right)
covers_of (IndexLoop edge left relation) = bit_or (covers_of left) (2 ^ relation)

-- each of its relations has a bit of the eight
abbrev pub FitsSet : PlanTree → Type 0
FitsSet (Scan relation) = relation < 8
FitsSet (IndexScan relation column) = relation < 8
FitsSet (Nest left right) = FitsSet left × FitsSet right
FitsSet (Hash edge left right) = FitsSet left × FitsSet right
FitsSet (Merge edge left right) = FitsSet left × FitsSet right
FitsSet (IndexLoop edge left relation) = FitsSet left × (relation < 8)
