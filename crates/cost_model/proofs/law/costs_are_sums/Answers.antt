use Rattle.cost_model.proofs.Sums.{costs-are-sums}
use Rattle.cost_model.proofs.law.costs_are_sums.Goals as goal

pub returns : goal.returns
returns c = λ costing p point is. costs-are-sums costing point p is
