use Rattle.std.proofs.Common.{◌≡◌, ◌++◌, drop, take, flat_map}
use Rattle.sql_bind.specs.Located.{given_kind}
use Rattle.sql_bind.specs.Names.{first_fault_among}
use Rattle.sql_bind.specs.Predicates.{own_fault}
use Rattle.sql_bind.proofs.walk.check_kinds.Given as goal

abbrev pub invariant-loop-i : goal.invariant-loop-i
invariant-loop-i l =
    (first_fault_among (own_fault l.predicate l.kind) l.kinds ≡ first_fault_among (own_fault l.predicate l.kind) (drop l.i l.kinds))
    × (l.parameters.items ≡ l.fn.parameters.items ++ flat_map (given_kind l.kind) (take l.i l.kinds))
