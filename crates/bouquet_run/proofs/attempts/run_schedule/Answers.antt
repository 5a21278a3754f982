use Rattle.std.proofs.Common.{rules, refl, ap, subst, sym}
use Rattle.std.specs.Prelude.{All, List, Option, Some, Ok}
use Rattle.query_block.specs.Blocks.{IsPutOf, block_tree}
use Rattle.plan_tree.specs.Enumerated.{IsPlan}
use Rattle.bouquet_type.specs.Trees.{BouquetTree}
use Rattle.bouquet_type.specs.Schedule.{Member, final_plan}
use Rattle.bouquet_type.specs.Runs.{end_of, run_end}
use Rattle.bouquet_type.specs.Cursor.{IsWholeSchedule, attempt_tree, members_left, schedule_of}
use Rattle.bouquet_type.specs.declared.report.Report.{Report}
use Rattle.bouquet_run.specs.Outcomes.{AnswersRun, works_over}
use Rattle.bouquet_run.proofs.Stepping.{EngineTells, begun, bounded, coming-at-hand, engine-steps, engine-tells, may-execute}
use Rattle.bouquet_run.proofs.attempts.run_schedule.Goals as goal

pub steps-init : goal.steps-init
steps-init g c =
    let schedule = schedule_of g.L.Ladder.state c.new-schedule.result in
    let bouquet = schedule.ladder.whole in
    let first = c.args.engine.now in
    let block = block_tree first.block.now in
    let work = works_over first.meter.now.database block in
    let whole = subst (λ (b : BouquetTree). IsWholeSchedule b schedule) (sym c.new-schedule.ensures.whole) c.new-schedule.ensures in
    record {
      running = begun bouquet block first.max_work (run_end bouquet work) first.meter.now first.space.now (members_left schedule) schedule
          (ap (λ (left : List Member). end_of work left (final_plan bouquet)) (sym whole.members)) c.requires.unspent c.requires.context.result whole;
      keeps = search rules;
    }

pub execute-requires-clause-executes : goal.execute-requires-clause-executes
execute-requires-clause-executes g c =
    let state = schedule_of g.L.Ladder.state in
    let begun = (state c.new-schedule.result).ladder.whole in
    let first = c.args.engine.now in
    let put = subst (λ (whole : BouquetTree). IsPutOf whole.costing.block (block_tree first.block.now)) (sym c.new-schedule.ensures.whole) c.requires.block in
    may-execute begun (run_end begun (works_over first.meter.now.database (block_tree first.block.now))) first c.steps.engine c.steps.engine (members_left (state c.steps.schedule)) (state c.steps.schedule)
    (state c.next.new.self) c.steps.runs (attempt_tree c.attempt.result) c.steps.invariant.running c.steps.invariant.keeps c.in_ok-next.ensures.goes_on c.attempt.ensures.step
    c.attempt.result.plan.now put c.attempt.ensures.plan c.requires.context.work

pub execute-requires-clause-coming : goal.execute-requires-clause-coming
execute-requires-clause-coming g c =
    let state = schedule_of g.L.Ladder.state in
    let begun = (state c.new-schedule.result).ladder.whole in
    let first = c.args.engine.now in
    let put = subst (λ (whole : BouquetTree). IsPutOf whole.costing.block (block_tree first.block.now)) (sym c.new-schedule.ensures.whole) c.requires.block in
    coming-at-hand begun (run_end begun (works_over first.meter.now.database (block_tree first.block.now))) first c.steps.engine c.steps.engine (members_left (state c.steps.schedule)) (state c.steps.schedule)
    (state c.next.new.self) c.steps.runs (attempt_tree c.attempt.result) c.steps.invariant.running c.steps.invariant.keeps c.in_ok-next.ensures.goes_on c.attempt.ensures.step
    c.attempt.result.coming.now put c.attempt.ensures.coming

pub returns-in-Some-clause-answers : goal.returns-in-Some-clause-answers
returns-in-Some-clause-answers g c =
    let state = schedule_of g.L.Ladder.state in
    let first = c.args.engine.now in
    let old = c.steps.engine in
    let new = c.execute.new.engine in
    let block = block_tree first.block.now in
    let work = works_over first.meter.now.database block in
    let begun = (state c.new-schedule.result).ladder.whole in
    let due = members_left (state c.steps.schedule) in
    let step = attempt_tree c.attempt.result in
    let Tells : Option Report → Type 0 = λ told.
    EngineTells begun (run_end begun work) first old new due (state c.steps.schedule) (state c.next.new.self) c.steps.runs step c.steps.invariant.running c.steps.invariant.keeps
    c.in_ok-next.ensures.goes_on c.attempt.ensures.step old.block.now old.max_work old.meter.now.database (Ok told) in
    let tells = engine-tells begun (run_end begun work) first old new due (state c.steps.schedule) (state c.next.new.self) c.steps.runs step c.steps.invariant.running c.steps.invariant.keeps
    c.in_ok-next.ensures.goes_on c.attempt.ensures.step refl c.execute.ensures.keeps (Ok (Some c.in-Some.report)) (subst Tells c.in-Some.is c.in_ok-report.ensures.tells) in
    let so = engine-steps begun (run_end begun work) first old new due (state c.steps.schedule) (state c.next.new.self) c.steps.runs step c.steps.invariant.running c.steps.invariant.keeps
    c.in_ok-next.ensures.goes_on c.attempt.ensures.step refl c.execute.ensures.keeps (Ok (Some c.in-Some.report)) tells in
    let plans = subst (λ (whole : BouquetTree). All (λ contour. All (IsPlan whole.costing.block) contour.plans) whole.contours) (sym c.new-schedule.ensures.whole) c.requires.foot.ladder.plans in
    subst (λ (whole : BouquetTree). AnswersRun whole block first.meter.now.database first.max_work new.meter.now.account.spent new.space.now.result.rows (Ok c.in-Some.report)) c.new-schedule.ensures.whole
    (so.0, so.1, bounded begun work c.in-Some.report plans so.0.end)
