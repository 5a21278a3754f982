use Rattle.std.proofs.Common.{take, map}
use Rattle.turns.specs.Jobs.{job_tree}
use Rattle.turns.specs.Taking.{IdleStay, TakesRunning, numbers_running}
use Rattle.turns.proofs.taking.take_round.Given as goal

abbrev pub invariant-loop-number : goal.invariant-loop-number
invariant-loop-number l =
    let old = map job_tree l.initial.jobs in
    TakesRunning (numbers_running 0 (take l.number old)) old (map job_tree l.jobs) l.initial.taken.items l.taken.items × IdleStay l.initial.jobs l.jobs
