use Rattle.std.proofs.Common.{◌≡◌, map, take}
use Rattle.plan_tree.specs.Plans.{plan_tree}
use Rattle.anorexic.specs.Turns.{plan_at}
use Rattle.anorexic.proofs.reduction.copies.Given as goal

abbrev pub invariant-loop-number : goal.invariant-loop-number
invariant-loop-number l = map plan_tree l.taken.items ≡ map (plan_at l.plans) (take l.number-index l.numbers)
