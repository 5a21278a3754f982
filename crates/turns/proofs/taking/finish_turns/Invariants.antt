use Rattle.std.proofs.Common.{map}
use Rattle.turns.specs.Jobs.{job_tree}
use Rattle.turns.specs.Taking.{IdleStay, rounds_left}
use Rattle.turns.proofs.Rounds.{AreTaken}
use Rattle.turns.proofs.taking.finish_turns.Given as goal

abbrev pub invariant-rounds : goal.invariant-rounds
invariant-rounds l = AreTaken (map job_tree l.initial.jobs) (map job_tree l.jobs) l.taken.items × IdleStay l.initial.jobs l.jobs

abbrev pub decreases-rounds : goal.decreases-rounds
decreases-rounds l = rounds_left (map job_tree l.jobs)
