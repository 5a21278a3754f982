use Rattle.cost_model.proofs.BestPlans.{best-there, best-only}
use Rattle.cost_model.proofs.law.one_plan_is_best.Goals as goal

pub returns-clause-best : goal.returns-clause-best
returns-clause-best c = best-there

pub returns-clause-only : goal.returns-clause-only
returns-clause-only c = best-only
