use Rattle.std.proofs.Common.{◌≡◌, ◌∷◌, drop, map, take}
use Rattle.sql_bind.specs.Located.{located, kinds_of}
use Rattle.sql_bind.specs.Names.{first_fault_among}
use Rattle.sql_bind.specs.Predicates.{term_fault}
use Rattle.sql_bind.specs.Conjuncts.{joined_reach, reach_of_terms}
use Rattle.sql_bind.proofs.located.locate_list.Given as goal

abbrev pub invariant-loop-i : goal.invariant-loop-i
invariant-loop-i l =
    (first_fault_among (term_fault l.scope) l.terms ≡ first_fault_among (term_fault l.scope) (drop l.i l.terms))
    × (l.operands.items ≡ map (λ term. (located l.scope term).operand) (take l.i l.terms))
    × (l.kinds.items ≡ l.fn.first ∷ kinds_of l.scope (take l.i l.terms))
    × (reach_of_terms l.scope l.terms ≡ joined_reach l.reach (reach_of_terms l.scope (drop l.i l.terms)))
