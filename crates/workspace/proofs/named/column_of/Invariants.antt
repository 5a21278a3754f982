use Rattle.std.proofs.Common.{take}
use Rattle.workspace.proofs.NamedColumns.{AreOthers}
use Rattle.workspace.proofs.named.column_of.Given as goal

abbrev pub invariant-loop-number : goal.invariant-loop-number
invariant-loop-number l = AreOthers l.name (take l.number l.columns)
