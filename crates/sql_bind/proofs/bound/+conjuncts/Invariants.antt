use Rattle.std.proofs.Common.{drop, take}
use Rattle.sql_bind.specs.Predicates.{all_predicates}
use Rattle.sql_bind.specs.Conjuncts.{all_conjuncts}
use Rattle.sql_bind.specs.Collected.{AddsBound}
use Rattle.sql_bind.proofs.Walked.{Leads}
use Rattle.sql_bind.proofs.bound.+conjuncts.Given as goal

abbrev pub invariant-add_all-loop-i : goal.invariant-add_all-loop-i
invariant-add_all-loop-i l =
    Leads l.scope (all_predicates l.chain) (all_predicates (drop l.i l.chain)) l.fn.walk l.walk
    × AddsBound l.scope (all_conjuncts (take l.i l.chain)) l.fn.bound.items l.bound.items
