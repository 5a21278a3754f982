-- The extents of the rows that are gone through.
use Rattle.std.proofs.Common.{◌≤◌, ◌-◌}
use Rattle.heap_pages.specs.Columns.{AreExtents}
use Rattle.heap_pages.proofs.columns.extents_of.Given as goal

abbrev pub invariant-loop-done : goal.invariant-loop-done
invariant-loop-done l = record {
  fits : l.done ≤ l.growth.more;
  extents : AreExtents l.growth.width l.done l.words l.extents;
}

abbrev pub decreases-loop-done : goal.decreases-loop-done
decreases-loop-done l = l.growth.more - l.done
