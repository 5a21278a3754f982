use Rattle.std.proofs.Common.{◌≡◌, ◌*◌, count_by, take}
use Rattle.db_catalog.specs.Database.{table_at}
use Rattle.table_stats.specs.Ready.{is_kept}
use Rattle.table_stats.proofs.kept.kept_in_blocks.Given as goal

-- the rows before the block are counted
abbrev pub invariant-loop-block : goal.invariant-loop-block
invariant-loop-block l = l.kept ≡ count_by (is_kept l.filter) (take (l.block * 64) (table_at l.db l.filter.relation.now.table).rows)
