use Rattle.std.proofs.Common.{◌≡◌, ◌+◌, drop, map}
use Rattle.sql_bind.specs.Names.{first_fault_from}
use Rattle.sql_bind.specs.Conjuncts.{bound_tree, conjunct_fault}
use Rattle.sql_bind.proofs.conjuncts.check_forms.Given as goal

abbrev pub invariant-loop-i : goal.invariant-loop-i
invariant-loop-i l =
    first_fault_from conjunct_fault 1 (map bound_tree l.conjuncts) ≡ first_fault_from conjunct_fault (l.i + 1) (map bound_tree (drop l.i l.conjuncts))
