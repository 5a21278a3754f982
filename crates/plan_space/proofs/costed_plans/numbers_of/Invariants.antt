use Rattle.std.proofs.Common.{◌≡◌, map, take}
use Rattle.plan_tree.specs.Plans.{plan_tree}
use Rattle.plan_space.specs.CostedPlans.{AreNumbersOf}
use Rattle.plan_space.proofs.costed_plans.numbers_of.Given as goal

abbrev pub invariant-loop-p : goal.invariant-loop-p
invariant-loop-p l = record { block : l.parts.block ≡ l.initial.parts.block; numbers : AreNumbersOf l.parts (map plan_tree (take l.p-index l.plans)) l.numbers.items }
