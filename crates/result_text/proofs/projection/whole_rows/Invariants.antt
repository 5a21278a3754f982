use Rattle.std.proofs.Common.{◌≡◌, ◌++◌, drop}
use Rattle.result_text.proofs.projection.whole_rows.Given as goal

abbrev pub invariant-loop-number : goal.invariant-loop-number
invariant-loop-number l = l.lent.items ++ drop l.number l.rows.rows ≡ l.rows.rows
