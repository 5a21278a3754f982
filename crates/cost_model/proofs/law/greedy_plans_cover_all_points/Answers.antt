use Rattle.cost_model.proofs.Covers.{greedy-covers, greedy-best, greedy-few}
use Rattle.cost_model.proofs.law.greedy_plans_cover_all_points.Goals as goal

pub returns-clause-covered : goal.returns-clause-covered
returns-clause-covered c = greedy-covers

pub returns-clause-best : goal.returns-clause-best
returns-clause-best c = greedy-best

pub returns-clause-few : goal.returns-clause-few
returns-clause-few c = greedy-few
