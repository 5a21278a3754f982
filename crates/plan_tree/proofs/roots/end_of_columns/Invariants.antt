use Rattle.std.proofs.Common.{◌≡◌, ◌≤◌, drop, max}
use Rattle.plan_tree.specs.AllPlans.{end_of_columns}
use Rattle.plan_tree.proofs.roots.end_of_columns.Given as goal

abbrev pub invariant-loop-column : goal.invariant-loop-column
invariant-loop-column l = record {
  end : max l.end (end_of_columns (drop l.column-index l.columns)) ≡ end_of_columns l.columns;
  bound : l.end ≤ 256;
}
