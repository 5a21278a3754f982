-- A row that meets a filter meets each part of it, and has a value in a column on which an index can use some conjunct.
use Rattle.std.proofs.Common.{◌≡◌, ℕ, Bool, true, false, List, [], ◌∷◌, filter, refl, ap, ◌∙◌, arith}
use Rattle.std.specs.List.{list_any}
use Rattle.std.proofs.lemmas.Bool.{eqb-true}
use Rattle.sql_values.specs.declared.op.Op.{Op}
use Rattle.sql_values.specs.declared.op.Op.TheVariants.{Ge}
use Rattle.sql_values.specs.declared.column.ColumnType.{ColumnType}
use Rattle.sql_values.specs.declared.value.Value.{Value}
use Rattle.sql_values.specs.Stored.{ValueRow}
use Rattle.sql_values.specs.Truth.{comparison, is_null}
use Rattle.query_block.specs.declared.condition.Operand.{Operand}
use Rattle.query_block.specs.declared.condition.Operand.TheVariants.{Column, Literal, Parameter}
use Rattle.query_block.specs.Conditions.{FilterTree, Compare, Between, OneOf, IsNull, Not, And, Or}
use Rattle.query_block.specs.Truth.{value_at, operand_value, truth_of}
use Rattle.query_block.specs.Meaning.{is_true, meets_filter}
use Rattle.plan_tree.specs.Usable.{is_usable, is_column}

-- what meets a filter meets some conjuncts of it
pub meets-part : (p : FilterTree → Bool) (conjuncts : List FilterTree) (row : ValueRow) → meets_filter conjuncts row ≡ true → meets_filter (filter p conjuncts) row ≡ true
meets-part p [] row is = refl
meets-part p (conjunct ∷ conjuncts) row is = grind (arith, meets-part p conjuncts row)

-- a comparison with NULL isn't true
compare-some : (op : Op) (a b : Value) → is_true (comparison op a b) ≡ true → (is_null a ≡ false) × (is_null b ≡ false)
compare-some op a b is = (grind arith, grind arith)

operand-some : (column : ℕ) (operand : Operand) (row : ValueRow) → is_column column operand ≡ true → is_null (operand_value row operand) ≡ false → is_null (value_at row column) ≡ false
operand-some column (Column other) row same some = ap (λ n. is_null (value_at row n)) (eqb-true column other same) ∙ some
operand-some column (Literal literal) row same some = cc
operand-some column (Parameter number) row same some = cc

-- so a conjunct that an index on a column can use isn't true where the column is NULL
pub usable-some : (columns : List ColumnType) (column : ℕ) (conjunct : FilterTree) (row : ValueRow) → is_usable columns column conjunct ≡ true → is_true (truth_of conjunct row) ≡ true
    → is_null (value_at row column) ≡ false
usable-some columns column (Compare op left right) row usable is =
    grind (arith, compare-some op (operand_value row left) (operand_value row right) is, operand-some column left row, operand-some column right row)
usable-some columns column (Between of low high) row usable is =
    grind (arith, compare-some Ge (operand_value row of) (operand_value row low), operand-some column of row)
usable-some columns column (OneOf of operands) row usable is = cc
usable-some columns column (IsNull of) row usable is = cc
usable-some columns column (Not inner) row usable is = cc
usable-some columns column (And parts) row usable is = cc
usable-some columns column (Or parts) row usable is = cc

pub meets-some : (columns : List ColumnType) (column : ℕ) (conjuncts : List FilterTree) (row : ValueRow) → list_any (is_usable columns column) conjuncts ≡ true → meets_filter conjuncts row ≡ true
    → is_null (value_at row column) ≡ false
meets-some columns column [] row has is = cc
meets-some columns column (conjunct ∷ conjuncts) row has is = grind (arith, usable-some columns column conjunct row, meets-some columns column conjuncts row)
