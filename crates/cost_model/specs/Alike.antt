-- When two points can't be told apart by a set of relations.
use Rattle.std.specs.Prelude.{◌≡◌, ℕ, ◌<◌, List, IsTrue, Some, length, slice_index}
use Rattle.query_block.specs.Blocks.{BlockTree, axis_of, axis_of_edge}
use Rattle.query_block.specs.Meaning.{RelationSet, is_inside}
use Rattle.plan_tree.specs.Enumerated.{edge_at}

-- both have the same level on the axis of each edge inside the set, and of each of its relations that has an axis
pub record IsAlike (block : BlockTree) (set : RelationSet) (point other : List ℕ) : Type 0 where
  pub edges : (edge : ℕ) → edge < length block.edges → IsTrue (is_inside set (edge_at block.edges edge))
      → slice_index point (axis_of_edge edge) ≡ slice_index other (axis_of_edge edge)
  pub relations : (relation axis : ℕ) → IsTrue (set relation) → axis_of block relation ≡ Some axis
      → slice_index point axis ≡ slice_index other axis
