use Rattle.std.proofs.Common.{arith}
use Rattle.std.proofs.lemmas.Grind.{common_steps}
use Rattle.plan_tree.proofs.PlanCounts.{plan_count}
use Rattle.plan_tree.proofs.PlanCounts.{count-pairs}
use Rattle.plan_tree.proofs.enumerate.count_with.Goals as goal

pub returns-in-Nest : goal.returns-in-Nest
returns-in-Nest c = grind (arith, common_steps, count-pairs, plan_count)

pub returns-in-Hash : goal.returns-in-Hash
returns-in-Hash c = grind (arith, common_steps, count-pairs, plan_count)

pub returns-in-Merge : goal.returns-in-Merge
returns-in-Merge c = grind (arith, common_steps, count-pairs, plan_count)
