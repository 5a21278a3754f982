use Rattle.std.proofs.Common.{subst}
use Rattle.turns.specs.Standing.{job_after}
use Rattle.turns.proofs.RunAlone.{IsOn, each-on, ends-so, passes-so}
use Rattle.turns.proofs.law.a_job_ends_as_its_run_alone.Goals as goal

pub returns-clause-answered : goal.returns-clause-answered
returns-clause-answered c = λ task count end at. subst (IsOn task count) at (each-on task count)

pub returns-clause-limited : goal.returns-clause-limited
returns-clause-limited c = λ task count at. subst (IsOn task count) at (each-on task count)

pub returns-clause-fits : goal.returns-clause-fits
returns-clause-fits c = λ task count over fits. ends-so task count (job_after task count) (each-on task count) over fits

pub returns-clause-passes : goal.returns-clause-passes
returns-clause-passes c = λ task count over past. passes-so task count (job_after task count) (each-on task count) over past

pub returns-clause-unbroken : goal.returns-clause-unbroken
returns-clause-unbroken c = λ task count lost. subst (IsOn task count) lost (each-on task count)
