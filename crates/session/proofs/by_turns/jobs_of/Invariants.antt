use Rattle.std.proofs.Common.{◌≡◌, map, take}
use Rattle.turns.specs.Jobs.{job_tree}
use Rattle.session.specs.Turns.{fresh_jobs}
use Rattle.session.specs.Uses.{task_of_use}
use Rattle.session.proofs.by_turns.jobs_of.Given as goal

abbrev pub invariant-loop-used : goal.invariant-loop-used
invariant-loop-used l = map job_tree l.jobs.items ≡ fresh_jobs (map (task_of_use l.asked.max_work l.asked.database.now) (take l.used-index l.all))
