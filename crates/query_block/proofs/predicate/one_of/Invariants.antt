use Rattle.query_block.specs.Cells.{row_values}
use Rattle.query_block.specs.Truth.{operand_value}
use Rattle.query_block.proofs.Chains.{IsLeft, equals}
use Rattle.query_block.proofs.predicate.one_of.Given as goal

abbrev pub invariant-loop-operand : goal.invariant-loop-operand
invariant-loop-operand l = IsLeft (equals (row_values l.row) (operand_value (row_values l.row) l.of)) l.operands l.found l.operand-index
