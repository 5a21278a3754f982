use Rattle.std.proofs.Common.{take, length, ◌-◌, ◌≤◌}
use Rattle.result_text.specs.Printed.{records_of}
use Rattle.result_text.specs.TextWriter.{WritesText}
use Rattle.result_text.proofs.print.write_rows.Given as goal

abbrev pub decreases-loop-from : goal.decreases-loop-from
decreases-loop-from g l = length l.rows - l.from

abbrev pub invariant-loop-from : goal.invariant-loop-from
invariant-loop-from g l = (l.from ≤ length l.rows) × WritesText (records_of (g.L.TextList.texts l.texts) l.kinds (take l.from l.rows)) l.fn.writer l.writer
