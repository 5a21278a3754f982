use Rattle.query_block.specs.Cells.{row_values}
use Rattle.query_block.proofs.Chains.{IsLeft, all, any}
use Rattle.query_block.proofs.evaluate.+truth.Given as goal

abbrev pub invariant-truth_of_all-loop-part : goal.invariant-truth_of_all-loop-part
invariant-truth_of_all-loop-part l = IsLeft (all (row_values l.row)) l.parts l.found l.part-index

abbrev pub invariant-truth_of_any-loop-part : goal.invariant-truth_of_any-loop-part
invariant-truth_of_any-loop-part l = IsLeft (any (row_values l.row)) l.parts l.found l.part-index
