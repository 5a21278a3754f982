use Rattle.plan_space.specs.PartSums.{AreOwnCosts}
use Rattle.plan_space.proofs.part_costs.fill_own_costs.Given as goal

abbrev pub invariant-loop-place : goal.invariant-loop-place
invariant-loop-place l = AreOwnCosts l.prices l.nodes l.own_costs l.place
