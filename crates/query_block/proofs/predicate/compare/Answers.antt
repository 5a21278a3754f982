use Rattle.std.proofs.Common.{arith}
use Rattle.std.proofs.lemmas.Grind.{common_steps}
use Rattle.query_block.proofs.Words.{operands-comparable}
use Rattle.query_block.proofs.predicate.compare.Goals as goal

pub compare_with-requires-clause-kinds : goal.compare_with-requires-clause-kinds
compare_with-requires-clause-kinds c = grind (arith, common_steps, operands-comparable)
