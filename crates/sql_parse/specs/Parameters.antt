-- The parameters of a condition.
use Rattle.std.specs.Prelude.{ℕ, ◌≡◌, ◌+◌, List, [], ◌∷◌, ◌++◌, Option, Some, None}
use Rattle.std.specs.List.{filter_map}
use Rattle.sql_parse.specs.declared.tree.Term.{Term}
use Rattle.sql_parse.specs.declared.tree.Term.TheVariants as term
use Rattle.sql_parse.specs.Trees.{ConditionTree, ConditionTrees, Compare, Between, OneOf, IsNull, Not, And, Or, NoMore, More}

-- the number of an operand that is a parameter
abbrev pub parameter_of : Term → Option ℕ
parameter_of (term.Parameter number) = Some number
parameter_of other = None

abbrev mutual
  -- the numbers of a condition's parameters, in written order
  pub parameters_in : ConditionTree → List ℕ
  parameters_in (Compare op left right) = filter_map parameter_of (left ∷ right ∷ [])
  parameters_in (Between negated of low high) = filter_map parameter_of (of ∷ low ∷ high ∷ [])
  parameters_in (OneOf negated of terms) = filter_map parameter_of (of ∷ terms)
  parameters_in (IsNull negated column) = []
  parameters_in (Not inner) = parameters_in inner
  parameters_in (And parts) = parameters_in_all parts
  parameters_in (Or parts) = parameters_in_all parts

  pub parameters_in_all : ConditionTrees → List ℕ
  parameters_in_all NoMore = []
  parameters_in_all (More part parts) = parameters_in part ++ parameters_in_all parts

-- those of a query's condition, where it has one
abbrev pub parameters_of_condition : Option ConditionTree → List ℕ
parameters_of_condition None = []
parameters_of_condition (Some tree) = parameters_in tree

-- the numbers follow one another, from the first on
abbrev pub AreNumberedFrom : (first : ℕ) → List ℕ → Type 0
AreNumberedFrom first [] = Unit {0}
AreNumberedFrom first (number ∷ numbers) = (number ≡ first) × AreNumberedFrom (first + 1) numbers
