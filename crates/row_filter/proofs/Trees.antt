-- The trees of an IN and of an OR.
use Rattle.std.proofs.Common.{◌≡◌, ◌∙◌, Vec, Global, map, ap, sym}
use Rattle.query_block.specs.declared.condition.Operand.{Operand}
use Rattle.query_block.specs.declared.condition.Condition.{Condition}
use Rattle.query_block.specs.declared.condition.Condition.TheOpen as layer
use Rattle.query_block.specs.declared.condition.Condition.TheVariants as condition
use Rattle.query_block.specs.declared.condition.Condition.TheFolds.{fold-roll-Condition}
use Rattle.query_block.specs.Conditions.{FilterTree, OneOf, Or, chain, filter_node, filter_tree}

pub tree-of-in : (of : Operand) (operands : Vec Operand Global) → filter_tree (condition.OneOf of operands) ≡ OneOf of operands.items
tree-of-in of operands = ap filter_tree (sym (condition.rolls-OneOf of operands)) ∙ fold-roll-Condition FilterTree filter_node (layer.OneOf of operands)

pub tree-of-or : (parts : Vec Condition Global) → filter_tree (condition.Or parts) ≡ Or (chain (map filter_tree parts.items))
tree-of-or parts = ap filter_tree (sym (condition.rolls-Or parts)) ∙ fold-roll-Condition FilterTree filter_node (layer.Or parts)
