-- The conditions of a filter that have no parameter.
use Rattle.std.proofs.Common.{◌≡◌, ◌<◌, ◌&&◌, ℕ, zero, suc, length, get_or, map, Bool, true, false, not, cond, All, List, [], ◌∷◌, ◌++◌, refl, sym, ap, subst, ◌∙◌, arith}
use Rattle.std.specs.List.{list_any}
use Rattle.std.proofs.lemmas.List.Elements.{All-nil, All-cons, All-head, All-tail}
use Rattle.sql_values.specs.declared.column.ColumnType.{ColumnType}
use Rattle.sql_values.specs.Stored.{ValueRow}
use Rattle.query_block.specs.declared.kind.Kind.{Kind}
use Rattle.query_block.specs.declared.condition.Operand.{Operand}
use Rattle.query_block.specs.declared.condition.Operand.TheVariants.{Column, Literal, Parameter}
use Rattle.query_block.specs.declared.condition.Condition.{Condition}
use Rattle.query_block.specs.Conditions.{filter_tree, FilterTree, FilterTrees, Compare, Between, OneOf, IsNull, Not, And, Or, NoMore, More}
use Rattle.query_block.specs.Blocks.{IsOperand, AreOperands, FitsColumns, FitColumns}
use Rattle.query_block.specs.Meaning.{is_true, meets_filter}
use Rattle.query_block.specs.Parameters.{fixed_of, is_any_open, is_open, is_parameter}
use Rattle.query_block.specs.Truth.{truth_of}
use Rattle.query_block.proofs.Fixed.{fixed-fits}

-- ---- conditions that fit columns without parameters have none

module _ (columns : List ColumnType) where
  no-parameter : (operand : Operand) → IsOperand [] columns operand → is_parameter operand ≡ false
  no-parameter (Column column) is = refl
  no-parameter (Literal literal) is = refl
  no-parameter (Parameter number) is = absurd (omega (arith, is))

  none-of : (of : Operand) (operands : List Operand) → All (AreOperands [] columns of) operands → list_any is_parameter operands ≡ false
  none-of of [] all = refl
  none-of of (operand ∷ operands) all =
      rw (no-parameter operand ((All-head (AreOperands [] columns of) operand operands all).1), none-of of operands (All-tail (AreOperands [] columns of) operand operands all)) refl

  mutual
    pub closed : (tree : FilterTree) → FitsColumns [] columns tree → is_open tree ≡ false
    closed (Compare op left right) fits = rw (no-parameter left fits.0, no-parameter right fits.1) refl
    closed (Between of low high) fits = rw (no-parameter of fits.0.0, no-parameter low fits.0.1, no-parameter high fits.1.1) refl
    closed (OneOf of operands) fits = rw (no-parameter of fits.0, none-of of operands fits.1) refl
    closed (IsNull column) fits = refl
    closed (Not inner) fits = closed inner fits
    closed (And parts) fits = all-closed parts fits
    closed (Or parts) fits = all-closed parts fits

    all-closed : (parts : FilterTrees) → FitColumns [] columns parts → is_any_open parts ≡ false
    all-closed NoMore fits = refl
    all-closed (More part parts) fits = rw (closed part fits.0, all-closed parts fits.1) refl

  -- so all of them count
  pub closed-all : (trees : List FilterTree) → All (FitsColumns [] columns) trees → fixed_of trees ≡ trees
  closed-all [] fit = refl
  closed-all (tree ∷ trees) fit =
      rw (closed tree (All-head (FitsColumns [] columns) tree trees fit), closed-all trees (All-tail (FitsColumns [] columns) tree trees fit)) refl

-- those of a filter that have none fit without parameters
one-more : (columns : List ColumnType) (b : Bool) (tree : FilterTree) (trees : List FilterTree) → (b ≡ false → FitsColumns [] columns tree) → All (FitsColumns [] columns) trees
    → All (FitsColumns [] columns) (cond (not b) (tree ∷ trees) trees)
one-more columns true tree trees fits fit = fit
one-more columns false tree trees fits fit = All-cons (FitsColumns [] columns) tree trees (fits refl) fit

pub fixed-all : (kinds : List Kind) (columns : List ColumnType) (trees : List FilterTree) → All (FitsColumns kinds columns) trees → All (FitsColumns [] columns) (fixed_of trees)
fixed-all kinds columns [] fit = All-nil (FitsColumns [] columns)
fixed-all kinds columns (tree ∷ trees) fit =
    one-more columns (is_open tree) tree (fixed_of trees) (λ fixed. fixed-fits kinds columns tree fixed (All-head (FitsColumns kinds columns) tree trees fit))
    (fixed-all kinds columns trees (All-tail (FitsColumns kinds columns) tree trees fit))

-- and so does each of these
first-of : (columns : List ColumnType) (b : Bool) (tree : FilterTree) (trees : List FilterTree) → b ≡ false → All (FitsColumns [] columns) (cond (not b) (tree ∷ trees) trees) → FitsColumns [] columns tree
first-of columns true tree trees fixed fit = cc
first-of columns false tree trees fixed fit = All-head (FitsColumns [] columns) tree trees fit

rest-of : (columns : List ColumnType) (b : Bool) (tree : FilterTree) (trees : List FilterTree) → All (FitsColumns [] columns) (cond (not b) (tree ∷ trees) trees) → All (FitsColumns [] columns) trees
rest-of columns true tree trees fit = fit
rest-of columns false tree trees fit = All-tail (FitsColumns [] columns) tree trees fit

pub fixed-at : (columns : List ColumnType) (conditions : List Condition) (i : ℕ) (one : Condition) → i < length conditions → one ≡ get_or conditions i one → is_open (filter_tree one) ≡ false
    → All (FitsColumns [] columns) (fixed_of (map filter_tree conditions)) → FitsColumns [] columns (filter_tree one)
fixed-at columns [] i one below is fixed fit = absurd (omega (arith, below))
fixed-at columns (condition ∷ conditions) zero one below is fixed fit =
    subst (λ (c : Condition). FitsColumns [] columns (filter_tree c)) (sym is)
    (first-of columns (is_open (filter_tree condition)) (filter_tree condition) (fixed_of (map filter_tree conditions)) (ap (λ (c : Condition). is_open (filter_tree c)) (sym is) ∙ fixed) fit)
fixed-at columns (condition ∷ conditions) (suc i) one below is fixed fit =
    fixed-at columns conditions i one (omega (arith, below)) is fixed (rest-of columns (is_open (filter_tree condition)) (filter_tree condition) (fixed_of (map filter_tree conditions)) fit)

-- ---- a condition more

-- one with a parameter leaves them the same
pub open-more : (trees : List FilterTree) (tree : FilterTree) → is_open tree ≡ true → fixed_of (trees ++ tree ∷ []) ≡ fixed_of trees
open-more [] tree opened = ap (λ b. cond (not b) (tree ∷ []) []) opened
open-more (one ∷ trees) tree opened = ap (λ (rest : List FilterTree). cond (not (is_open one)) (one ∷ rest) rest) (open-more trees tree opened)

meets-last : (b : Bool) (one : FilterTree) (trees : List FilterTree) (row : ValueRow) → meets_filter (cond (not b) (one ∷ trees) trees) row ≡ (cond (not b) (is_true (truth_of one row)) true && meets_filter trees row)
meets-last true one trees row = refl
meets-last false one trees row = refl

-- without one it has to be true besides
pub fixed-more : (trees : List FilterTree) (tree : FilterTree) (row : ValueRow) → is_open tree ≡ false
    → meets_filter (fixed_of (trees ++ tree ∷ [])) row ≡ (meets_filter (fixed_of trees) row && is_true (truth_of tree row))
fixed-more [] tree row fixed = grind (arith, meets-last (is_open tree) tree [] row)
fixed-more (one ∷ trees) tree row fixed =
    grind (arith, meets-last (is_open one) one (fixed_of trees) row, meets-last (is_open one) one (fixed_of (trees ++ tree ∷ [])) row, fixed-more trees tree row fixed)
