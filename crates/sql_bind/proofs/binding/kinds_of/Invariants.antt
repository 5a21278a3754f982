use Rattle.std.proofs.Common.{◌≡◌, map, take}
use Rattle.sql_bind.proofs.binding.kinds_of.Given as goal

abbrev pub invariant-loop-i : goal.invariant-loop-i
invariant-loop-i l = l.kinds.items ≡ map (λ column. column.kind) (take l.i l.columns)
