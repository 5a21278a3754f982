use Rattle.std.proofs.Common.{◌<◌}
use Rattle.plan_space.specs.Steps.{Considers, HasLeft}
use Rattle.plan_space.proofs.steps.Search.joins.Given as goal

abbrev pub invariant-loop-left : goal.invariant-loop-left
invariant-loop-left l = Considers l.self (HasLeft (λ side. side < l.left)) l.fn.start l.found
