use Rattle.std.proofs.Common.{◌∙◌, ap, subst, sym}
use Rattle.query_block.specs.Blocks.{block_tree}
use Rattle.plan_tree.specs.Plans.{plan_tree}
use Rattle.db_catalog.specs.Database.{DatabaseState}
use Rattle.bouquet_type.specs.Cursor.{attempt_tree, schedule_of}
use Rattle.bouquet_type.specs.Kept.{ladder_of}
use Rattle.known_rows.specs.Known.{AreKnown}
use Rattle.turns.specs.Jobs.{IsJobOf, JobShape, task_at}
use Rattle.turns.specs.declared.progress.Progress.{Progress}
use Rattle.turns.proofs.NextTurn.{coming-on, is-job, may-run}
use Rattle.turns.proofs.job.Job.step.Goals as goal

pub execute_over-made-requires-clause-runs : goal.execute_over-made-requires-clause-runs
execute_over-made-requires-clause-runs c =
    let old = c.self.inside in
    let block = block_tree old.block.now in
    let schedule = schedule_of ladder_of old.schedule in
    let is = subst (IsJobOf (task_at old.meter.database schedule block old.max_work) old.meter schedule old.space) (ap (λ (job : JobShape). job.progress) c.self.view_is ∙ c.requires) c.self.invariant.0 in
    let may = may-run old.meter schedule old.space block old.max_work c.args.place (schedule_of ladder_of c.next.new.self) (attempt_tree c.attempt-attempt.result)
    is c.in_ok-next.ensures.goes_on c.attempt-attempt.ensures.step (plan_tree c.attempt-attempt.result.plan.now) c.attempt-attempt.ensures.plan in
    record { plan = may.0; context = may.1 }

pub execute_over-made-requires-clause-coming : goal.execute_over-made-requires-clause-coming
execute_over-made-requires-clause-coming c =
    let old = c.self.inside in
    let block = block_tree old.block.now in
    let schedule = schedule_of ladder_of old.schedule in
    let is = subst (IsJobOf (task_at old.meter.database schedule block old.max_work) old.meter schedule old.space) (ap (λ (job : JobShape). job.progress) c.self.view_is ∙ c.requires) c.self.invariant.0 in
    coming-on old.meter schedule old.space block old.max_work c.args.place (schedule_of ladder_of c.next.new.self) (attempt_tree c.attempt-attempt.result)
    is c.in_ok-next.ensures.goes_on c.attempt-attempt.ensures.step c.attempt-attempt.result.coming.now c.attempt-attempt.ensures.coming

pub invariant_of-self-2 : goal.invariant_of-self-2
invariant_of-self-2 c =
    let old = c.self.inside in
    let block = block_tree old.block.now in
    let schedule = schedule_of ladder_of old.schedule in
    let next = schedule_of ladder_of c.next.new.self in
    let after = c.execute_over-made.new.executor.meter.now in
    let last = c.execute_over-made.new.space in
    let is = subst (IsJobOf (task_at old.meter.database schedule block old.max_work) old.meter schedule old.space) (ap (λ (job : JobShape). job.progress) c.self.view_is ∙ c.requires) c.self.invariant.0 in
    let job = is-job old.meter schedule old.space block old.max_work c.args.place next (attempt_tree c.attempt-attempt.result) is c.in_ok-next.ensures.goes_on c.attempt-attempt.ensures.step
    after last c.execute_over-made.ensures.leaves c.execute_over-made.result c.execute_over-made.ensures.tells in (
      subst (λ (progress : Progress). IsJobOf (task_at after.database next block old.max_work) after next last progress) (sym c.progress_by.ensures) job,
      subst (λ (database : DatabaseState). AreKnown database.tables block c.execute_over-made.new.executor.known.now) (sym c.execute_over-made.ensures.leaves.leaves.database) c.execute_over-made.ensures.known,
    )
