use Rattle.cost_model.proofs.Least.{optimal-least, optimal-cheapest}
use Rattle.cost_model.proofs.law.optimal_costs_are_least.Goals as goal

pub returns-clause-least : goal.returns-clause-least
returns-clause-least c = optimal-least

pub returns-clause-cheapest : goal.returns-clause-cheapest
returns-clause-cheapest c = optimal-cheapest
