use Rattle.std.proofs.Common.{◌≡◌, drop, map}
use Rattle.turns.specs.Jobs.{job_tree}
use Rattle.turns.specs.Taking.{rounds_left}
use Rattle.turns.proofs.taking.any_running.Given as goal

abbrev pub invariant-loop-job : goal.invariant-loop-job
invariant-loop-job l = rounds_left (map job_tree l.jobs) ≡ rounds_left (map job_tree (drop l.job-index l.jobs))
