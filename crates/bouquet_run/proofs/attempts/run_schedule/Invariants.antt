use Rattle.std.proofs.Common.{length}
use Rattle.query_block.specs.Blocks.{block_tree}
use Rattle.exec_pipe.specs.Engines.{KeepsEngine}
use Rattle.bouquet_type.specs.Cursor.{members_left, schedule_of}
use Rattle.bouquet_type.specs.Runs.{run_end}
use Rattle.bouquet_run.specs.Outcomes.{works_over}
use Rattle.bouquet_run.specs.Running.{IsUnderWay, run_state}
use Rattle.bouquet_run.proofs.attempts.run_schedule.Given as goal

abbrev pub invariant-steps : goal.invariant-steps
invariant-steps g l =
    let state = schedule_of g.L.Ladder.state in
    let bouquet = (state l.initial.schedule).ladder.whole in
    let first = l.initial.engine in
    let block = block_tree first.block.now in
    record {
      running : IsUnderWay bouquet block first.max_work (run_end bouquet (works_over first.meter.now.database block)) first.meter.now first.space.now (members_left (state l.schedule))
          (run_state (state l.schedule) l.engine l.runs);
      keeps : KeepsEngine first l.engine;
    }

abbrev pub decreases-steps : goal.decreases-steps
decreases-steps g l = length (members_left (schedule_of g.L.Ladder.state l.schedule))
