use Rattle.std.specs.Prelude.{⊤}
use Rattle.plan_space.proofs.outlook.has_plan.Given as goal

abbrev pub invariant-loop-later : goal.invariant-loop-later
invariant-loop-later l = ⊤
