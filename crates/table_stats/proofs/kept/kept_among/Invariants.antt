use Rattle.std.proofs.Common.{◌≡◌, count_by, map, take}
use Rattle.db_catalog.specs.Indexes.{row_of_entry}
use Rattle.table_stats.specs.Ready.{is_kept}
use Rattle.table_stats.proofs.kept.kept_among.Given as goal

abbrev pub invariant-loop-entry : goal.invariant-loop-entry
invariant-loop-entry l = l.kept ≡ count_by (is_kept l.filter) (take l.entry-index (map (row_of_entry l.db l.table) l.entries))
