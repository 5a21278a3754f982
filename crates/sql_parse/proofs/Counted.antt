-- A statement has at most as many operands, and so at most as many predicates and parameters, as it has tokens.
use Rattle.std.proofs.Common.{◌≡◌, ◌∙◌, ◌+◌, ◌≤◌, List, [], ◌∷◌, ◌++◌, length, Option, Some, None, refl, ap, length-append, arith}
use Rattle.std.proofs.lemmas.Grind.{common_steps}
use Rattle.std.specs.List.{filter_map, cons_option}
use Rattle.std.proofs.lemmas.List.Elements.{filter_map-append}
use Rattle.sql_parse.specs.Lexemes.{Lexeme}
use Rattle.sql_parse.specs.Trees.{ConditionTree, ConditionTrees, Compare, Between, OneOf, IsNull, Not, And, Or, NoMore, More, StatementTree}
use Rattle.sql_parse.specs.Parameters.{parameter_of, parameters_in, parameters_in_all, parameters_of_condition}
use Rattle.sql_parse.specs.Counts.{predicates_in, predicates_in_all, operands_in, operands_in_all, of_condition, condition_of, HasUpTo}
use Rattle.sql_parse.specs.Statements.{IsStatement}
use Rattle.sql_parse.proofs.Numbers.{numbers_in}
use Rattle.sql_parse.proofs.Operands.{terms_in, terms_in_all, terms_of_condition}
use Rattle.sql_parse.proofs.Statements.{terms_of, statement-held}

mutual
  predicates-few : (tree : ConditionTree) → predicates_in tree ≤ length (terms_in tree)
  predicates-few (Compare op left right) = omega arith
  predicates-few (Between negated of low high) = omega arith
  predicates-few (OneOf negated of terms) = omega arith
  predicates-few (IsNull negated column) = omega arith
  predicates-few (Not inner) = predicates-few inner
  predicates-few (And parts) = predicates-few_all parts
  predicates-few (Or parts) = predicates-few_all parts

  predicates-few_all : (parts : ConditionTrees) → predicates_in_all parts ≤ length (terms_in_all parts)
  predicates-few_all NoMore = omega arith
  predicates-few_all (More part parts) = omega (arith, predicates-few part, predicates-few_all parts, length-append (terms_in part) (terms_in_all parts))

mutual
  operands-terms : (tree : ConditionTree) → operands_in tree ≡ length (terms_in tree)
  operands-terms (Compare op left right) = refl
  operands-terms (Between negated of low high) = refl
  operands-terms (OneOf negated of terms) = omega arith
  operands-terms (IsNull negated column) = refl
  operands-terms (Not inner) = operands-terms inner
  operands-terms (And parts) = operands-terms_all parts
  operands-terms (Or parts) = operands-terms_all parts

  operands-terms_all : (parts : ConditionTrees) → operands_in_all parts ≡ length (terms_in_all parts)
  operands-terms_all NoMore = refl
  operands-terms_all (More part parts) = omega (arith, operands-terms part, operands-terms_all parts, length-append (terms_in part) (terms_in_all parts))

mutual
  parameters-terms : (tree : ConditionTree) → filter_map parameter_of (terms_in tree) ≡ parameters_in tree
  parameters-terms (Compare op left right) = refl
  parameters-terms (Between negated of low high) = refl
  parameters-terms (OneOf negated of terms) = refl
  parameters-terms (IsNull negated column) = refl
  parameters-terms (Not inner) = parameters-terms inner
  parameters-terms (And parts) = parameters-terms_all parts
  parameters-terms (Or parts) = parameters-terms_all parts

  parameters-terms_all : (parts : ConditionTrees) → filter_map parameter_of (terms_in_all parts) ≡ parameters_in_all parts
  parameters-terms_all NoMore = refl
  parameters-terms_all (More part parts) =
      filter_map-append parameter_of (terms_in part) (terms_in_all parts)
      ∙ (ap (λ numbers. numbers ++ filter_map parameter_of (terms_in_all parts)) (parameters-terms part)
      ∙ ap (λ numbers. parameters_in part ++ numbers) (parameters-terms_all parts))

condition-predicates : (condition : Option ConditionTree) → of_condition predicates_in condition ≤ length (terms_of_condition condition)
condition-predicates None = omega arith
condition-predicates (Some tree) = predicates-few tree

condition-operands : (condition : Option ConditionTree) → of_condition operands_in condition ≡ length (terms_of_condition condition)
condition-operands None = refl
condition-operands (Some tree) = operands-terms tree

condition-parameters : (condition : Option ConditionTree) → filter_map parameter_of (terms_of_condition condition) ≡ parameters_of_condition condition
condition-parameters None = refl
condition-parameters (Some tree) = parameters-terms tree

pub statement-counted : (tokens : List Lexeme) (statement : StatementTree) → IsStatement tokens statement
    → of_condition operands_in (condition_of statement) ≤ length tokens
statement-counted tokens statement form =
    omega (arith, condition-operands (condition_of statement), (statement-held tokens statement form).few)

-- the parameters of a statement are those of its tokens
pub statement-parameters : (tokens : List Lexeme) (statement : StatementTree) → IsStatement tokens statement
    → numbers_in tokens ≡ parameters_of_condition (condition_of statement)
statement-parameters tokens statement form = (statement-held tokens statement form).numbers ∙ condition-parameters (condition_of statement)

cons_option-length : {A : Type 0} (o : Option A) (xs : List A) → length (cons_option o xs) ≤ 1 + length xs
cons_option-length None xs = omega arith
cons_option-length (Some x) xs = omega arith

filter_map-length : {A B : Type 0} (f : A → Option B) (xs : List A) → length (filter_map f xs) ≤ length xs
filter_map-length f [] = omega arith
filter_map-length f (x ∷ xs) = omega (arith, cons_option-length (f x) (filter_map f xs), filter_map-length f xs)

pub statement-few : (tokens : List Lexeme) (statement : StatementTree) → IsStatement tokens statement → HasUpTo (length tokens) statement
statement-few tokens statement form =
    grind (arith, common_steps, statement-held, condition-predicates, filter_map-length, terms_of, condition-parameters)
