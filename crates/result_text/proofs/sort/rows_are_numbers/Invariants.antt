use Rattle.std.proofs.Common.{All, take}
use Rattle.result_text.specs.Rows.{AreNumbers}
use Rattle.result_text.proofs.sort.rows_are_numbers.Given as goal

abbrev pub invariant-loop-row : goal.invariant-loop-row
invariant-loop-row l = All AreNumbers (take l.row-index l.rows)
