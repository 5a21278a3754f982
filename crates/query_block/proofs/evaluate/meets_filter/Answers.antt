use Rattle.std.proofs.Common.{arith}
use Rattle.std.proofs.lemmas.Grind.{common_steps}
use Rattle.query_block.proofs.Chains.{conjunct-fits}
use Rattle.query_block.proofs.evaluate.meets_filter.Goals as goal

pub is_met-requires : goal.is_met-requires
is_met-requires c = grind (arith, common_steps, conjunct-fits)
