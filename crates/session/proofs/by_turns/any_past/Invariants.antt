use Rattle.std.proofs.Common.{◌≡◌, drop, map}
use Rattle.std.specs.List.{list_any}
use Rattle.turns.specs.Jobs.{job_tree}
use Rattle.session.specs.Turns.{is_past}
use Rattle.session.proofs.by_turns.any_past.Given as goal

abbrev pub invariant-loop-job : goal.invariant-loop-job
invariant-loop-job l = list_any is_past (map job_tree (drop l.job-index l.jobs)) ≡ list_any is_past (map job_tree l.jobs)
