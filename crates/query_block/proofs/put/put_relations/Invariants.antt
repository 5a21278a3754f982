use Rattle.std.proofs.Common.{◌≡◌, map, take}
use Rattle.query_block.specs.Blocks.{put_relation, relation_tree}
use Rattle.query_block.proofs.put.put_relations.Given as goal

abbrev pub invariant-loop-i : goal.invariant-loop-i
invariant-loop-i l = map relation_tree l.put.items ≡ map (λ relation. put_relation l.values (relation_tree relation)) (take l.i l.relations)
