use Rattle.std.proofs.Common.{◌≡◌, drop}
use Rattle.sql_bind.specs.Located.{first_kind}
use Rattle.sql_bind.proofs.walk.first_kind.Given as goal

abbrev pub invariant-loop-i : goal.invariant-loop-i
invariant-loop-i l = first_kind l.kinds ≡ first_kind (drop l.i l.kinds)
