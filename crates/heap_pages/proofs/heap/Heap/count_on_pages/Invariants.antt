-- The rows so far are counted.
use Rattle.std.proofs.Common.{◌≡◌, count_by, take}
use Rattle.heap_pages.specs.Spans.{HaveColumnWords, has_among}
use Rattle.heap_pages.proofs.heap.Heap.count_on_pages.Given as goal

abbrev pub invariant-loop-i : goal.invariant-loop-i
invariant-loop-i l = record {
  count : l.count ≡ count_by (has_among l.column l.from l.to) (take l.i l.self.rows);
  words : HaveColumnWords l.column (take l.i l.self.rows);
}
