-- How many predicates, operands and parameters a statement has.
use Rattle.std.specs.Prelude.{ℕ, ◌+◌, ◌≤◌, length, List, Option, Some, None}
use Rattle.std.specs.List.{All}
use Rattle.sql_parse.specs.declared.statement.Statement.{Statement}
use Rattle.sql_parse.specs.Parameters.{parameters_of_condition}
use Rattle.sql_parse.specs.Trees.{ConditionTree, ConditionTrees, Compare, Between, OneOf, IsNull, Not, And, Or, NoMore, More, StatementTree, Select, Compile, OpenFile, statement_tree}

abbrev mutual
  -- each comparison, BETWEEN, IN and IS NULL is one predicate
  pub predicates_in : ConditionTree → ℕ
  predicates_in (Not inner) = predicates_in inner
  predicates_in (And parts) = predicates_in_all parts
  predicates_in (Or parts) = predicates_in_all parts
  predicates_in predicate = 1

  pub predicates_in_all : ConditionTrees → ℕ
  predicates_in_all NoMore = 0
  predicates_in_all (More part parts) = predicates_in part + predicates_in_all parts

abbrev mutual
  pub operands_in : ConditionTree → ℕ
  operands_in (Compare op left right) = 2
  operands_in (Between negated of low high) = 3
  operands_in (OneOf negated of terms) = 1 + length terms
  operands_in (IsNull negated column) = 1
  operands_in (Not inner) = operands_in inner
  operands_in (And parts) = operands_in_all parts
  operands_in (Or parts) = operands_in_all parts

  pub operands_in_all : ConditionTrees → ℕ
  operands_in_all NoMore = 0
  operands_in_all (More part parts) = operands_in part + operands_in_all parts

-- the condition of a statement's query
abbrev pub condition_of : StatementTree → Option ConditionTree
condition_of (Select query) = query.condition
condition_of (Compile name levels threshold query) = query.condition
condition_of (OpenFile name file query) = query.condition
condition_of other = None

-- a number of the condition, or 0 where there is none
abbrev pub of_condition : (ConditionTree → ℕ) → Option ConditionTree → ℕ
of_condition count None = 0
of_condition count (Some tree) = count tree

-- a statement has at most so many predicates, and at most so many parameters
pub record HasUpTo (most : ℕ) (statement : StatementTree) : Type 0 where
  pub predicates : of_condition predicates_in (condition_of statement) ≤ most
  pub parameters : length (parameters_of_condition (condition_of statement)) ≤ most

-- each of the statements does
abbrev pub HaveUpTo : (most : ℕ) → List Statement → Type 0
HaveUpTo most statements = All (λ statement. HasUpTo most (statement_tree statement)) statements
