use Rattle.std.proofs.Common.{◌∙◌, arith, sym}
use Rattle.turns.proofs.Rounds.{next-busy, next-idle, none-behind}
use Rattle.turns.proofs.taking.any_running.Goals as goal

pub loop-job-preserved : goal.loop-job-preserved
loop-job-preserved c =
    c.loop-job.invariant
    ∙ next-idle c.args.jobs.now c.loop-job.job-index c.job-item.result c.loop-job-test.true c.job-item.is (sym c.is_running.ensures ∙ c.if-is_running.false)

pub returns-then-is_running-clause-some : goal.returns-then-is_running-clause-some
returns-then-is_running-clause-some c = λ is.
    let some = next-busy c.args.jobs.now c.loop-job.job-index c.job-item.result c.loop-job-test.true c.job-item.is (sym c.is_running.ensures ∙ c.if-is_running.true) in
    omega (arith, some, c.loop-job.invariant)

pub returns-clause-none : goal.returns-clause-none
returns-clause-none c = λ is. c.loop-job.invariant ∙ none-behind c.args.jobs.now c.loop-job.job-index c.loop-job-test.false
