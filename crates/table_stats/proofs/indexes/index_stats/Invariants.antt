use Rattle.std.proofs.Common.{◌≡◌, map, take}
use Rattle.query_block.specs.Blocks.{relation_tree}
use Rattle.cost_model.specs.Counts.{index_stats_of}
use Rattle.table_stats.proofs.indexes.index_stats.Given as goal

abbrev pub invariant-loop-column : goal.invariant-loop-column
invariant-loop-column l = l.stats.items ≡ map (index_stats_of l.db.tables (relation_tree l.relation)) (take l.column-index l.indexes)
