use Rattle.std.proofs.Common.{◌||◌, Bool, take}
use Rattle.sql_values.specs.Stored.{ValueRow}
use Rattle.query_block.specs.Conditions.{OneOf}
use Rattle.query_block.specs.Meaning.{is_true}
use Rattle.query_block.specs.Truth.{truth_of}
use Rattle.row_filter.specs.InLists.{IsInListOf}
use Rattle.row_filter.proofs.listed.list_values.Given as goal

-- the words of the values before are put to the others
abbrev pub invariant-loop-operand : goal.invariant-loop-operand
invariant-loop-operand l =
    (test : ValueRow → Bool) → IsInListOf l.texts l.columns test l.initial.list
    → IsInListOf l.texts l.columns (λ row. test row || is_true (truth_of (OneOf l.of (take l.operand-index l.operands)) row)) l.list
