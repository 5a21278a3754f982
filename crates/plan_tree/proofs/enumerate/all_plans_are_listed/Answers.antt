use Rattle.plan_tree.proofs.Enumerated.{plans-listed}
use Rattle.plan_tree.proofs.AscendingPlans.{plans-ascend}
use Rattle.plan_tree.proofs.enumerate.all_plans_are_listed.Goals as goal

pub returns-clause-all : goal.returns-clause-all
returns-clause-all c = plans-listed

pub returns-clause-ascending : goal.returns-clause-ascending
returns-clause-ascending c = plans-ascend
