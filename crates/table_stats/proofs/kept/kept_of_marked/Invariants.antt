use Rattle.std.proofs.Common.{◌≡◌, ◌≤◌, ◌-◌, ◌/◌, ◌^◌, count_by, take}
use Rattle.heap_pages.specs.Spans.{rows_of_span}
use Rattle.db_catalog.specs.Database.{table_at}
use Rattle.table_stats.specs.Ready.{is_kept}
use Rattle.table_stats.proofs.kept.kept_of_marked.Given as goal

-- the rows before the place are counted, and the marks are left of those from it on
abbrev pub invariant-loop-left : goal.invariant-loop-left
invariant-loop-left l = record {
  left : l.left ≡ l.marks / 2 ^ l.behind;
  within : l.behind ≤ l.span.count;
  kept : l.kept ≡ count_by (is_kept l.filter) (take l.behind (rows_of_span l.span (table_at l.db l.table).rows));
}

abbrev pub decreases-loop-left : goal.decreases-loop-left
decreases-loop-left l = l.span.count - l.behind
