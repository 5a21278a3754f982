-- The truth of a condition on a row of values (SQL-92, 8.2 to 8.12).
use Rattle.std.specs.Prelude.{ℕ, List, [], ◌∷◌, slice_index_or}
use Rattle.sql_values.specs.declared.op.Op.TheVariants.{Eq, Le, Ge}
use Rattle.sql_values.specs.declared.truth.Truth.{Truth}
use Rattle.sql_values.specs.declared.truth.Truth.TheVariants as truth
use Rattle.sql_values.specs.declared.value.Value.{Value}
use Rattle.sql_values.specs.declared.value.Value.TheVariants as value
use Rattle.sql_values.specs.Stored.{ValueRow}
use Rattle.sql_values.specs.Truth.{truth_and, truth_or, truth_not, certain, comparison, is_null}
use Rattle.query_block.specs.declared.condition.Operand.{Operand}
use Rattle.query_block.specs.declared.condition.Operand.TheVariants.{Column, Literal, Parameter}
use Rattle.query_block.specs.Conditions.{FilterTree, FilterTrees, Compare, Between, OneOf, IsNull, Not, And, Or, NoMore, More}

-- the value of a row in a column
abbrev pub value_at : ValueRow → ℕ → Value
value_at row column = slice_index_or row column value.Null

-- the value of an operand; a parameter has none before one is put in its place
abbrev pub operand_value : ValueRow → Operand → Value
operand_value row (Column column) = value_at row column
operand_value row (Literal literal) = literal
operand_value row (Parameter _) = value.Null

-- x = a OR x = b OR ..
abbrev pub one_of : ValueRow → Value → List Operand → Truth
one_of row x [] = truth.False
one_of row x (operand ∷ operands) = truth_or (comparison Eq x (operand_value row operand)) (one_of row x operands)

abbrev mutual
  -- the truth of a condition
  pub truth_of : FilterTree → ValueRow → Truth
  truth_of (Compare op left right) row = comparison op (operand_value row left) (operand_value row right)
  truth_of (Between of low high) row =
      truth_and (comparison Ge (operand_value row of) (operand_value row low)) (comparison Le (operand_value row of) (operand_value row high))
  truth_of (OneOf of operands) row = one_of row (operand_value row of) operands
  truth_of (IsNull column) row = certain (is_null (value_at row column))
  truth_of (Not inner) row = truth_not (truth_of inner row)
  truth_of (And parts) row = truth_of_all parts row
  truth_of (Or parts) row = truth_of_any parts row

  -- a AND b AND ..
  pub truth_of_all : FilterTrees → ValueRow → Truth
  truth_of_all NoMore row = truth.True
  truth_of_all (More part parts) row = truth_and (truth_of part row) (truth_of_all parts row)

  -- a OR b OR ..
  pub truth_of_any : FilterTrees → ValueRow → Truth
  truth_of_any NoMore row = truth.False
  truth_of_any (More part parts) row = truth_or (truth_of part row) (truth_of_any parts row)
