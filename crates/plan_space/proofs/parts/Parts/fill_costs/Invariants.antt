use Rattle.plan_space.specs.Parts.{ArePartCosts}
use Rattle.plan_space.specs.PartSums.{HasCosts}
use Rattle.plan_space.proofs.parts.Parts.fill_costs.Given as goal

abbrev pub invariant-loop-number : goal.invariant-loop-number
invariant-loop-number l = record { costs : HasCosts l.self.plans l.costs; right : ArePartCosts l.prices l.self.plans l.costs l.number }
