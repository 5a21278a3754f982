-- Conditions without parameters fit whatever the parameters are.
use Rattle.std.proofs.Common.{◌≡◌, ◌||◌, Bool, true, false, List, [], ◌∷◌, All, refl}
use Rattle.std.specs.List.{list_any}
use Rattle.std.proofs.lemmas.List.Elements.{All-nil, All-cons, All-head, All-tail}
use Rattle.sql_values.specs.declared.column.ColumnType.{ColumnType}
use Rattle.query_block.specs.declared.kind.Kind.{Kind}
use Rattle.query_block.specs.declared.condition.Operand.{Operand}
use Rattle.query_block.specs.declared.condition.Operand.TheVariants.{Column, Literal, Parameter}
use Rattle.query_block.specs.Conditions.{FilterTree, FilterTrees, Compare, Between, OneOf, IsNull, Not, And, Or, NoMore, More}
use Rattle.query_block.specs.Parameters.{is_parameter, is_open, is_any_open}
use Rattle.query_block.specs.Blocks.{IsOperand, AreOperands, is_text_operand, FitsColumns, FitColumns}

-- two tests of which neither holds
both-false : (a b : Bool) → (a || b) ≡ false → (a ≡ false) × (b ≡ false)
both-false false b is = (refl, is)
both-false true b is = cc

module _ (kinds : List Kind) (columns : List ColumnType) where
  fixed-operand : (operand : Operand) → is_parameter operand ≡ false → IsOperand kinds columns operand → IsOperand [] columns operand
  fixed-operand (Column column) fixed is = is
  fixed-operand (Literal literal) fixed is = is
  fixed-operand (Parameter number) fixed is = cc

  fixed-text : (operand : Operand) → is_parameter operand ≡ false → is_text_operand [] columns operand ≡ is_text_operand kinds columns operand
  fixed-text (Column column) fixed = refl
  fixed-text (Literal literal) fixed = refl
  fixed-text (Parameter number) fixed = cc

  fixed-operands : (a b : Operand) → is_parameter a ≡ false → is_parameter b ≡ false → AreOperands kinds columns a b → AreOperands [] columns a b
  fixed-operands a b fixed_a fixed_b are =
      (fixed-operand a fixed_a are.0, fixed-operand b fixed_b are.1, rw (fixed-text a fixed_a, fixed-text b fixed_b) are.2)

  all-fixed-operands : (of : Operand) (operands : List Operand) → is_parameter of ≡ false → list_any is_parameter operands ≡ false → All (AreOperands kinds columns of) operands
      → All (AreOperands [] columns of) operands
  all-fixed-operands of [] fixed_of fixed all = All-nil (AreOperands [] columns of)
  all-fixed-operands of (operand ∷ operands) fixed_of fixed all =
      let parts = both-false (is_parameter operand) (list_any is_parameter operands) fixed in
      All-cons (AreOperands [] columns of) operand operands
      (fixed-operands of operand fixed_of parts.0 (All-head (AreOperands kinds columns of) operand operands all))
      (all-fixed-operands of operands fixed_of parts.1 (All-tail (AreOperands kinds columns of) operand operands all))

  mutual
    -- a fixed condition that fits among parameters fits without them
    pub fixed-fits : (tree : FilterTree) → is_open tree ≡ false → FitsColumns kinds columns tree → FitsColumns [] columns tree
    fixed-fits (Compare op left right) fixed fits =
        let parts = both-false (is_parameter left) (is_parameter right) fixed in
        fixed-operands left right parts.0 parts.1 fits
    fixed-fits (Between of low high) fixed fits =
        let outer = both-false (is_parameter of || is_parameter low) (is_parameter high) fixed in
        let inner = both-false (is_parameter of) (is_parameter low) outer.0 in
        (fixed-operands of low inner.0 inner.1 fits.0, fixed-operands of high inner.0 outer.1 fits.1)
    fixed-fits (OneOf of operands) fixed fits =
        let parts = both-false (is_parameter of) (list_any is_parameter operands) fixed in
        (fixed-operand of parts.0 fits.0, all-fixed-operands of operands parts.0 parts.1 fits.1)
    fixed-fits (IsNull column) fixed fits = fits
    fixed-fits (Not inner) fixed fits = fixed-fits inner fixed fits
    fixed-fits (And parts) fixed fits = all-fixed-fit parts fixed fits
    fixed-fits (Or parts) fixed fits = all-fixed-fit parts fixed fits

    all-fixed-fit : (parts : FilterTrees) → is_any_open parts ≡ false → FitColumns kinds columns parts → FitColumns [] columns parts
    all-fixed-fit NoMore fixed fits = tt
    all-fixed-fit (More part parts) fixed fits =
        let each = both-false (is_open part) (is_any_open parts) fixed in
        (fixed-fits part each.0 fits.0, all-fixed-fit parts each.1 fits.1)
