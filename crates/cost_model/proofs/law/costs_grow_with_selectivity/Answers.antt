use Rattle.cost_model.proofs.Cards.{card-le}
use Rattle.cost_model.proofs.Monotone.{cost-le, optimal-le}
use Rattle.cost_model.proofs.law.costs_grow_with_selectivity.Goals as goal

pub returns-clause-cards : goal.returns-clause-cards
returns-clause-cards c = card-le

pub returns-clause-costs : goal.returns-clause-costs
returns-clause-costs c = cost-le

pub returns-clause-optimal : goal.returns-clause-optimal
returns-clause-optimal c = optimal-le
