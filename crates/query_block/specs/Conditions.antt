-- Conditions on a row of one relation as trees, without where they lie in memory.
use Rattle.std.specs.Prelude.{ℕ, List, [], ◌∷◌}
use Rattle.sql_values.specs.declared.op.Op.{Op}
use Rattle.query_block.specs.declared.condition.Operand.{Operand}
use Rattle.query_block.specs.declared.condition.Condition.{Condition}
use Rattle.query_block.specs.declared.condition.Condition.TheOpen.{Condition-F}
use Rattle.query_block.specs.declared.condition.Condition.TheOpen as layer
use Rattle.query_block.specs.declared.condition.Condition.TheFolds.{fold-Condition}

mutual
  -- a condition
  pub data FilterTree : Type 0 where
    Compare : Op → Operand → Operand → FilterTree
    Between : Operand → Operand → Operand → FilterTree
    OneOf : Operand → List Operand → FilterTree
    IsNull : (column : ℕ) → FilterTree
    Not : FilterTree → FilterTree
    And : FilterTrees → FilterTree
    Or : FilterTrees → FilterTree

  -- the operands of a chain
  pub data FilterTrees : Type 0 where
    NoMore : FilterTrees
    More : FilterTree → FilterTrees → FilterTrees

-- a list of operands
abbrev pub chain : List FilterTree → FilterTrees
chain [] = NoMore
chain (tree ∷ trees) = More tree (chain trees)

-- one node, with the trees of its operands in their places
abbrev pub filter_node : Condition-F FilterTree → FilterTree
filter_node (layer.Compare op left right) = Compare op left right
filter_node (layer.Between of low high) = Between of low high
filter_node (layer.OneOf of operands) = OneOf of operands.items
filter_node (layer.IsNull column) = IsNull column
filter_node (layer.Not inner) = Not inner.value
filter_node (layer.And parts) = And (chain parts.items)
filter_node (layer.Or parts) = Or (chain parts.items)

-- the tree of a condition
abbrev pub filter_tree : Condition → FilterTree
filter_tree = fold-Condition FilterTree filter_node
