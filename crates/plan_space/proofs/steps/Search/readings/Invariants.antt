use Rattle.std.proofs.Common.{take}
use Rattle.plan_space.specs.Steps.{Considers}
use Rattle.plan_space.proofs.Considered.{IsScanBy}
use Rattle.plan_space.proofs.steps.Search.readings.Given as goal

abbrev pub invariant-loop-i : goal.invariant-loop-i
invariant-loop-i l = Considers l.self (IsScanBy l.relation (take l.i l.indexes)) l.initial.found l.found
