use Rattle.std.proofs.Common.{◌≡◌, drop, take}
use Rattle.result_text.specs.Printed.{records_of}
use Rattle.result_text.specs.Rows.{words_of}
use Rattle.result_text.specs.TextWriter.{WritesText}
use Rattle.result_text.proofs.print.write_gathered.Given as goal

abbrev pub invariant-loop-row : goal.invariant-loop-row
invariant-loop-row g l =
    (l.left ≡ words_of (drop l.row-index l.rows)) × WritesText (records_of (g.L.TextList.texts l.texts) l.kinds (take l.row-index l.rows)) l.fn.writer l.writer
