-- Parameters of conditions: where they stand, and the values in their places.
use Rattle.std.specs.Prelude.{◌||◌, Bool, true, false, List, map, slice_index_or, not, filter}
use Rattle.std.specs.List.{list_any}
use Rattle.sql_values.specs.declared.value.Value.{Value}
use Rattle.sql_values.specs.declared.value.Value.TheVariants as value
use Rattle.query_block.specs.declared.condition.Operand.{Operand}
use Rattle.query_block.specs.declared.condition.Operand.TheVariants.{Literal, Parameter}
use Rattle.query_block.specs.Conditions.{FilterTree, FilterTrees, Compare, Between, OneOf, IsNull, Not, And, Or, NoMore, More}

abbrev pub is_parameter : Operand → Bool
is_parameter (Parameter _) = true
is_parameter other = false

abbrev mutual
  -- whether a condition is open: it has a parameter anywhere in it; else it is fixed
  pub is_open : FilterTree → Bool
  is_open (Compare op left right) = is_parameter left || is_parameter right
  is_open (Between of low high) = is_parameter of || is_parameter low || is_parameter high
  is_open (OneOf of operands) = is_parameter of || list_any is_parameter operands
  is_open (IsNull column) = false
  is_open (Not inner) = is_open inner
  is_open (And parts) = is_any_open parts
  is_open (Or parts) = is_any_open parts

  pub is_any_open : FilterTrees → Bool
  is_any_open NoMore = false
  is_any_open (More part parts) = is_open part || is_any_open parts

-- those of a filter's conjuncts that are fixed
abbrev pub fixed_of : List FilterTree → List FilterTree
fixed_of conjuncts = filter (λ conjunct. not (is_open conjunct)) conjuncts

-- an operand with the values in place of the parameters; of a parameter for which there is none, NULL
abbrev pub put_operand : List Value → Operand → Operand
put_operand values (Parameter number) = Literal (slice_index_or values number value.Null)
put_operand values other = other

abbrev mutual
  -- a condition with the values in place of its parameters
  pub put_condition : List Value → FilterTree → FilterTree
  put_condition values (Compare op left right) = Compare op (put_operand values left) (put_operand values right)
  put_condition values (Between of low high) = Between (put_operand values of) (put_operand values low) (put_operand values high)
  put_condition values (OneOf of operands) = OneOf (put_operand values of) (map (put_operand values) operands)
  put_condition values (IsNull column) = IsNull column
  put_condition values (Not inner) = Not (put_condition values inner)
  put_condition values (And parts) = And (put_conditions values parts)
  put_condition values (Or parts) = Or (put_conditions values parts)

  pub put_conditions : List Value → FilterTrees → FilterTrees
  put_conditions values NoMore = NoMore
  put_conditions values (More part parts) = More (put_condition values part) (put_conditions values parts)
