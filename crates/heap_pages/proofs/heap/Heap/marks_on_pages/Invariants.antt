-- The marks of the rows from the last one down to this one.
use Rattle.std.proofs.Common.{◌≡◌, ◌≤◌, drop, map}
use Rattle.narrow_columns.specs.Marks.{marks_of}
use Rattle.heap_pages.specs.Spans.{HaveColumnWords, has_among, rows_of_span}
use Rattle.heap_pages.proofs.heap.Heap.marks_on_pages.Given as goal

abbrev pub invariant-loop-left : goal.invariant-loop-left
invariant-loop-left l = record {
  fits : l.left ≤ l.span.count;
  marks : l.marks ≡ marks_of (map (has_among l.column l.from l.to) (drop l.left (rows_of_span l.span l.self.rows)));
  words : HaveColumnWords l.column (drop l.left (rows_of_span l.span l.self.rows));
}

abbrev pub decreases-loop-left : goal.decreases-loop-left
decreases-loop-left l = l.left
