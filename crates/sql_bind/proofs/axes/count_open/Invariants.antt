use Rattle.std.proofs.Common.{◌≡◌, ◌≤◌, take}
use Rattle.std.specs.List.{count_by, list_any}
use Rattle.query_block.specs.Parameters.{is_open}
use Rattle.sql_bind.specs.Collected.{filter_trees}
use Rattle.sql_bind.proofs.axes.count_open.Given as goal

abbrev pub invariant-loop-filter : goal.invariant-loop-filter
invariant-loop-filter l =
    (l.count ≡ count_by (list_any is_open) (filter_trees (take l.filter-index l.filters))) × (l.count ≤ l.filter-index)
