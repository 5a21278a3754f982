use Rattle.std.proofs.Common.{arith}
use Rattle.std.proofs.lemmas.Grind.{common_steps}
use Rattle.bouquet_check.proofs.Walks.{last_cost-read}
use Rattle.bouquet_check.proofs.checked.last_cost.Goals as goal

pub returns : goal.returns
returns c = grind (arith, common_steps, last_cost-read)
