use Rattle.std.proofs.Common.{arith}
use Rattle.std.proofs.lemmas.Grind.{common_steps}
use Rattle.bouquet_check.proofs.Walks.{first_cost-read}
use Rattle.bouquet_check.proofs.checked.first_cost.Goals as goal

pub returns : goal.returns
returns c = grind (arith, common_steps, first_cost-read)
