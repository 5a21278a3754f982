use Rattle.std.proofs.Common.{arith}
use Rattle.std.proofs.lemmas.Grind.{common_steps}
use Rattle.bouquet_check.proofs.Walks.{steps-end}
use Rattle.bouquet_check.proofs.checked.wrong_step.Goals as goal

pub returns : goal.returns
returns c = grind (arith, common_steps, steps-end)
