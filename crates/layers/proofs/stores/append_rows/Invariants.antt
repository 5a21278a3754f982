use Rattle.std.proofs.Common.{◌≡◌, ◌+◌, ◌≤◌}
use Rattle.layers.proofs.stores.append_rows.Given as goal

abbrev pub invariant-loop-number : goal.invariant-loop-number
invariant-loop-number l = record {
  columns : l.heap.columns ≡ l.columns;
  room : l.rows ≤ l.heap.spare + l.number;
}
