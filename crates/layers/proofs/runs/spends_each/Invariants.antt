use Rattle.exec_pipe.specs.Scenes.{MayRun}
use Rattle.layers.proofs.runs.spends_each.Given as goal

abbrev pub invariant-loop-budget : goal.invariant-loop-budget
invariant-loop-budget l = MayRun l.meter l.block l.plan l.space
