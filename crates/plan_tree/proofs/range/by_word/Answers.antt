use Rattle.std.proofs.Common.{arith}
use Rattle.std.proofs.lemmas.Grind.{common_steps}
use Rattle.std.proofs.lemmas.Int.{to_z-of_z}
use Rattle.plan_tree.proofs.Narrowing.{eq_is, lt_is, gt_is}
use Rattle.plan_tree.proofs.range.by_word.Goals as goal

pub returns-in-Eq : goal.returns-in-Eq
returns-in-Eq c = grind (arith, common_steps, to_z-of_z, eq_is)

pub returns-in-Lt : goal.returns-in-Lt
returns-in-Lt c = grind (arith, common_steps, to_z-of_z, lt_is)

pub returns-in-Gt : goal.returns-in-Gt
returns-in-Gt c = grind (arith, common_steps, to_z-of_z, gt_is)
