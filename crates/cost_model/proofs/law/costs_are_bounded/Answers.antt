use Rattle.cost_model.proofs.Bounds.{card-below, pairs-below, cost-below}
use Rattle.cost_model.proofs.law.costs_are_bounded.Goals as goal

pub returns-clause-card : goal.returns-clause-card
returns-clause-card c = card-below

pub returns-clause-pairs : goal.returns-clause-pairs
returns-clause-pairs c = pairs-below

pub returns-clause-cost : goal.returns-clause-cost
returns-clause-cost c = cost-below
