use Rattle.std.proofs.Common.{map, take}
use Rattle.result_text.specs.Printed.{field_of}
use Rattle.sql_values.specs.Stored.{values_of}
use Rattle.result_text.specs.TextWriter.{WritesFields}
use Rattle.result_text.proofs.print.write_row.Given as goal

abbrev pub invariant-loop-place : goal.invariant-loop-place
invariant-loop-place g l = WritesFields (map field_of (values_of (g.L.TextList.texts l.texts) (take l.place l.kinds) l.row)) l.fn.writer l.writer
