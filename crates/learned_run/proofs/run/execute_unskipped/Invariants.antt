use Rattle.std.proofs.Common.{◌≡◌, length}
use Rattle.exec_pipe.specs.Engines.{KeepsEngine}
use Rattle.bouquet_type.specs.Cursor.{members_left, schedule_of}
use Rattle.bouquet_type.specs.Kept.{ladder_of}
use Rattle.bouquet_type.specs.Trees.{bouquet_tree}
use Rattle.learned_run.proofs.Between.{IsLearning}
use Rattle.learned_run.proofs.run.execute_unskipped.Given as goal

abbrev pub invariant-steps : goal.invariant-steps
invariant-steps l = record {
  learning : IsLearning (bouquet_tree l.b) l.initial.engine l.engine (schedule_of ladder_of l.schedule) l.runs l.skips.items l.lesson;
  frontiers : l.frontiers.bouquet ≡ l.b;
  keeps : KeepsEngine l.initial.engine l.engine;
}

abbrev pub decreases-steps : goal.decreases-steps
decreases-steps l = length (members_left (schedule_of ladder_of l.schedule))
