-- How many predicates a condition has. If it is well-formed, it has at least one, and no more conjuncts than predicates.
use Rattle.std.proofs.Common.{◌≡◌, ◌≤◌, refl, length, length-append, arith}
use Rattle.sql_bind.specs.Predicates.{predicates, predicates_of_all}
use Rattle.sql_parse.specs.Trees.{ConditionTree, ConditionTrees, Compare, Between, OneOf, IsNull, Not, And, Or, NoMore, More}
use Rattle.sql_parse.specs.Counts.{predicates_in, predicates_in_all}
use Rattle.sql_parse.specs.WellFormed.{HasOperand, IsWellFormedCondition, AreWellFormedConditions}
use Rattle.sql_bind.specs.Conjuncts.{conjuncts, conjuncts_of_all}

mutual
  pub predicates-count : (tree : ConditionTree) → length (predicates tree) ≡ predicates_in tree
  predicates-count (Compare op left right) = refl
  predicates-count (Between negated of low high) = refl
  predicates-count (OneOf negated of terms) = refl
  predicates-count (IsNull negated column) = refl
  predicates-count (Not inner) = predicates-count inner
  predicates-count (And parts) = predicates-count_all parts
  predicates-count (Or parts) = predicates-count_all parts

  predicates-count_all : (parts : ConditionTrees) → length (predicates_of_all parts) ≡ predicates_in_all parts
  predicates-count_all NoMore = refl
  predicates-count_all (More part parts) = omega (arith, length-append (predicates part) (predicates_of_all parts), predicates-count part, predicates-count_all parts)

mutual
  predicates-some : (tree : ConditionTree) → IsWellFormedCondition tree → 1 ≤ predicates_in tree
  predicates-some (Compare op left right) formed = omega arith
  predicates-some (Between negated of low high) formed = omega arith
  predicates-some (OneOf negated of terms) formed = omega arith
  predicates-some (IsNull negated column) formed = omega arith
  predicates-some (Not inner) formed = predicates-some inner formed
  predicates-some (And parts) formed = predicates-some_all parts formed.0 formed.1
  predicates-some (Or parts) formed = predicates-some_all parts formed.0 formed.1

  predicates-some_all : (parts : ConditionTrees) → HasOperand parts → AreWellFormedConditions parts → 1 ≤ predicates_in_all parts
  predicates-some_all NoMore some formed = absurd some
  predicates-some_all (More part parts) some formed = omega (arith, predicates-some part formed.0)

mutual
  pub conjuncts-few : (tree : ConditionTree) → IsWellFormedCondition tree → length (conjuncts tree) ≤ predicates_in tree
  conjuncts-few (Compare op left right) formed = omega arith
  conjuncts-few (Between negated of low high) formed = omega arith
  conjuncts-few (OneOf negated of terms) formed = omega arith
  conjuncts-few (IsNull negated column) formed = omega arith
  conjuncts-few (Not inner) formed = predicates-some inner formed
  conjuncts-few (And parts) formed = conjuncts-few_all parts formed.1
  conjuncts-few (Or parts) formed = predicates-some_all parts formed.0 formed.1

  conjuncts-few_all : (parts : ConditionTrees) → AreWellFormedConditions parts → length (conjuncts_of_all parts) ≤ predicates_in_all parts
  conjuncts-few_all NoMore formed = omega arith
  conjuncts-few_all (More part parts) formed =
      omega (arith, length-append (conjuncts part) (conjuncts_of_all parts), conjuncts-few part formed.0, conjuncts-few_all parts formed.1)
