use Rattle.std.proofs.Common.{◌≡◌, drop, map}
use Rattle.query_block.specs.Blocks.{relation_tree}
use Rattle.table_stats.specs.Fresh.{first_stale}
use Rattle.table_stats.proofs.staleness.fresh.Given as goal

abbrev pub invariant-loop-number : goal.invariant-loop-number
invariant-loop-number l =
    first_stale l.db 0 (map relation_tree l.relation-items) l.kept
    ≡ first_stale l.db l.number (map relation_tree (drop l.number l.relation-items)) (drop l.number l.kept)
