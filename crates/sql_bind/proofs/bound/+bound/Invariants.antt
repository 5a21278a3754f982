use Rattle.std.proofs.Common.{◌≡◌, drop, map, take}
use Rattle.query_block.specs.Conditions.{filter_tree}
use Rattle.sql_parse.specs.Trees.{condition_tree, operands}
use Rattle.sql_bind.specs.Predicates.{all_predicates}
use Rattle.sql_bind.specs.Conjuncts.{bound_condition, joined_reach, reach_of_all}
use Rattle.sql_bind.proofs.Walked.{Leads}
use Rattle.sql_bind.proofs.bound.+bound.Given as goal

abbrev pub invariant-bound_chain-loop-i : goal.invariant-bound_chain-loop-i
invariant-bound_chain-loop-i l =
    Leads l.scope (all_predicates l.parts) (all_predicates (drop l.i l.parts)) l.fn.walk l.walk
    × (map filter_tree l.conditions.items ≡ map (λ part. bound_condition l.scope (condition_tree part)) (take l.i l.parts))
    × (reach_of_all l.scope (operands (map condition_tree l.parts)) ≡ joined_reach l.reach (reach_of_all l.scope (operands (map condition_tree (drop l.i l.parts)))))
