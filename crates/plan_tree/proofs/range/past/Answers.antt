use Rattle.std.proofs.Common.{arith}
use Rattle.std.proofs.lemmas.Grind.{common_steps}
use Rattle.std.proofs.lemmas.Int.{to_z-of_z}
use Rattle.plan_tree.proofs.Narrowing.{next_fits, next_le}
use Rattle.plan_tree.proofs.range.past.Goals as goal

pub returns : goal.returns
returns c = grind (arith, common_steps, next_fits, to_z-of_z, next_le)
