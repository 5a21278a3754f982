use Rattle.std.proofs.Common.{◌≡◌, ◌≤◌, take}
use Rattle.std.specs.List.{count_by}
use Rattle.query_block.specs.Blocks.{has_parameter, relation_tree}
use Rattle.query_block.proofs.block.count_open.Given as goal

abbrev pub invariant-loop-relation : goal.invariant-loop-relation
invariant-loop-relation l =
    (l.count ≡ count_by (λ relation. has_parameter (relation_tree relation)) (take l.relation-index l.relations)) × (l.count ≤ l.relation-index)
