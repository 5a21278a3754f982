use Rattle.std.proofs.Common.{◌≡◌, take, map}
use Rattle.query_block.specs.Blocks.{relation_tree}
use Rattle.cost_model.specs.Counts.{relation_stats_of}
use Rattle.table_stats.proofs.stats.all_stats.Given as goal

abbrev pub invariant-loop-relation : goal.invariant-loop-relation
invariant-loop-relation l =
    l.stats.items ≡ map (λ relation. relation_stats_of l.db.tables (relation_tree relation)) (take l.relation-index l.relation-items)
