use Rattle.std.proofs.Common.{[], take, map}
use Rattle.turns.specs.Jobs.{job_tree}
use Rattle.turns.specs.Taking.{IdleStay, TakesAll}
use Rattle.turns.proofs.taking.take_turns.Given as goal

abbrev pub invariant-loop-number : goal.invariant-loop-number
invariant-loop-number l =
    TakesAll (take l.number-index l.turns) (map job_tree l.initial.jobs) (map job_tree l.jobs) [] l.taken.items × IdleStay l.initial.jobs l.jobs
