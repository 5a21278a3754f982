use Rattle.std.proofs.Common.{take}
use Rattle.result_text.specs.TextWriter.{WritesFields}
use Rattle.result_text.proofs.print.write_header.Given as goal

abbrev pub invariant-loop-name : goal.invariant-loop-name
invariant-loop-name l = WritesFields (take l.name-index l.names) l.fn.writer l.writer
