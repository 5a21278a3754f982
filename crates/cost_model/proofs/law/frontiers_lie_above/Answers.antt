use Rattle.cost_model.proofs.Frontiers.{frontier-above}
use Rattle.cost_model.proofs.law.frontiers_lie_above.Goals as goal

pub returns : goal.returns
returns c = frontier-above
