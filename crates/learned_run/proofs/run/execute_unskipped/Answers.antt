use Rattle.std.proofs.Common.{rules, ◌∙◌, ◌+◌, List, [], refl, ap, sym, subst, arith}
use Rattle.std.specs.Prelude.{IfSome, Ok, Option}
use Rattle.plan_tree.specs.Plans.{plan_tree}
use Rattle.plan_tree.specs.Enumerated.{IsPlan}
use Rattle.ess_grid.specs.Points.{IsPoint}
use Rattle.cost_model.specs.Costing.{CostingShape, costing_tree}
use Rattle.bouquet_type.specs.Shapes.{BouquetShape}
use Rattle.bouquet_type.specs.Trees.{BouquetTree, bouquet_tree}
use Rattle.bouquet_type.specs.Kept.{ladder_of}
use Rattle.bouquet_type.specs.Cursor.{IsWholeSchedule, attempt_tree, members_left, schedule_of}
use Rattle.bouquet_type.proofs.Meets.{plans-of-bouquet}
use Rattle.bouquet_type.specs.declared.report.Report.{Report}
use Rattle.bouquet_run.specs.Running.{TellsExecution}
use Rattle.bouquet_run.proofs.Stepping.{coming-at-hand, keeps-on, may-execute}
use Rattle.learned_run.specs.declared.learned.Skip.{Skip}
use Rattle.learned_run.specs.Raising.{IsLearned, RulesOut}
use Rattle.learned_run.specs.Skips.{learned_end}
use Rattle.learned_run.specs.Covering.{IsMemberOf, member_of, step_skip}
use Rattle.learned_run.proofs.Between.{IsLearning, due_among, learning-answered, learning-begun, learning-on, learning-refused, learning-skipped, place-few, step-of, works_of}
use Rattle.learned_run.proofs.run.execute_unskipped.Goals as goal

pub steps-init : goal.steps-init
steps-init c =
    let bouquet = bouquet_tree c.args.b.now in
    let first = c.args.engine.now in
    let lesson = c.new-lesson.result in
    let schedule = schedule_of ladder_of c.new-schedule.result in
    let learned : IsLearned bouquet.costing [] lesson.some lesson.least =
    subst (λ (shape : CostingShape). IsLearned (costing_tree shape) [] lesson.some lesson.least) c.costing-costing.ensures c.new-lesson.ensures in
    let whole = subst (λ (b : BouquetTree). IsWholeSchedule b schedule) c.new.ensures.whole c.new-schedule.ensures in
    record {
      learning = subst (λ (skips : List Skip). IsLearning bouquet first first schedule 0 skips lesson) (sym c.requires.skips)
          (learning-begun bouquet first schedule lesson learned c.requires.unspent c.requires.context.result whole);
      frontiers = c.requires.frontiers;
      keeps = search rules;
    }

pub skip_point-requires-clause-step : goal.skip_point-requires-clause-step
skip_point-requires-clause-step c =
    let step = c.attempt-step.result in
    let of = step-of (bouquet_tree c.args.b.now) c.args.engine.now c.steps.engine (schedule_of ladder_of c.steps.schedule) (schedule_of ladder_of c.next.new.self) c.steps.runs c.steps.skips.items c.steps.lesson step
    c.steps.invariant.learning c.in_ok-next.ensures.goes_on c.attempt-step.ensures.step c.attempt-step.ensures.place c.attempt-step.ensures.cost in
    subst (λ (one : BouquetShape). IfSome step.budget (λ budget. IsMemberOf (bouquet_tree one) (member_of step budget))) (sym c.steps.invariant.frontiers) of

pub skip_point-requires-clause-plan : goal.skip_point-requires-clause-plan
skip_point-requires-clause-plan c =
    let plan = plan_tree c.attempt-step.result.plan.now in
    subst (λ (one : BouquetShape). IsPlan (bouquet_tree one).costing.block plan) (sym c.steps.invariant.frontiers)
    (subst (λ (whole : BouquetTree). IsPlan whole.costing.block plan) (c.in_ok-next.ensures.goes_on.whole ∙ c.steps.invariant.learning.running.of) c.attempt-step.ensures.plan)

pub note-requires : goal.note-requires
note-requires c =
    omega (arith, c.attempt-step.ensures.place, place-few (schedule_of ladder_of c.next.new.self) c.in_ok-next.ensures.goes_on.at.is)

pub steps-preserved-in-Some : goal.steps-preserved-in-Some
steps-preserved-in-Some c =
    let bouquet = bouquet_tree c.args.b.now in
    let first = c.args.engine.now in
    let next = schedule_of ladder_of c.next.new.self in
    let step = c.attempt-step.result in
    let same = ap (λ (one : BouquetShape). step_skip (bouquet_tree one) step c.point.result step.budget) c.steps.invariant.frontiers in
    let skipped = learning-skipped bouquet first c.steps.engine (schedule_of ladder_of c.steps.schedule) next c.steps.runs c.steps.skips.items c.steps.lesson step
    c.steps.invariant.learning c.in_ok-next.ensures.goes_on c.attempt-step.ensures.step c.attempt-step.ensures.place c.attempt-step.ensures.cost
    c.point.result c.point.ensures c.in-Some.point (sym c.in-Some.is ∙ c.in_ok-point.ensures.skip ∙ same) in
    record {
      learning = subst (λ (skips : List Skip). IsLearning bouquet first c.steps.engine next c.steps.runs skips c.steps.lesson) (sym c.in_ok-note.ensures) skipped;
      frontiers = c.in_ok-point.ensures.same ∙ c.steps.invariant.frontiers;
      keeps = c.steps.invariant.keeps;
    }

pub execute-requires-clause-executes : goal.execute-requires-clause-executes
execute-requires-clause-executes c =
    let bouquet = bouquet_tree c.args.b.now in
    let first = c.args.engine.now in
    let old = c.steps.engine in
    let now = schedule_of ladder_of c.steps.schedule in
    let step = c.attempt-step.result in
    let is = c.steps.invariant.learning in
    may-execute bouquet (learned_end bouquet (works_of first)) first old old (due_among bouquet is.exhausted (members_left now)) now (schedule_of ladder_of c.next.new.self) c.steps.runs (attempt_tree step)
    is.running c.steps.invariant.keeps c.in_ok-next.ensures.goes_on c.attempt-step.ensures.step step.plan.now c.requires.block c.attempt-step.ensures.plan c.requires.context.work

pub execute-requires-clause-coming : goal.execute-requires-clause-coming
execute-requires-clause-coming c =
    let bouquet = bouquet_tree c.args.b.now in
    let first = c.args.engine.now in
    let old = c.steps.engine in
    let now = schedule_of ladder_of c.steps.schedule in
    let step = c.attempt-step.result in
    let is = c.steps.invariant.learning in
    coming-at-hand bouquet (learned_end bouquet (works_of first)) first old old (due_among bouquet is.exhausted (members_left now)) now (schedule_of ladder_of c.next.new.self) c.steps.runs (attempt_tree step)
    is.running c.steps.invariant.keeps c.in_ok-next.ensures.goes_on c.attempt-step.ensures.step step.coming.now c.requires.block c.attempt-step.ensures.coming

pub returns-in-Err-clause-answers : goal.returns-in-Err-clause-answers
returns-in-Err-clause-answers c =
    let step = c.attempt-step.result in
    let same = ap (λ (one : BouquetShape). step_skip (bouquet_tree one) step c.point.result step.budget) c.steps.invariant.frontiers in
    learning-refused (bouquet_tree c.args.b.now) c.args.engine.now c.steps.engine (schedule_of ladder_of c.steps.schedule) (schedule_of ladder_of c.next.new.self) c.steps.runs c.steps.skips.items c.steps.lesson step
    c.steps.invariant.learning c.in_ok-next.ensures.goes_on c.attempt-step.ensures.step c.attempt-step.ensures.place c.attempt-step.ensures.cost
    c.point.result c.point.ensures (sym c.in_default.is ∙ c.in_ok-point.ensures.skip ∙ same) c.steps.invariant.keeps c.execute.new.engine c.execute.ensures.keeps c.in-Err.fault c.in-Err.ensures.tells

pub returns-in-Ok-Some-clause-answers : goal.returns-in-Ok-Some-clause-answers
returns-in-Ok-Some-clause-answers c =
    let b = c.args.b.now in
    let old = c.steps.engine in
    let step = c.attempt-step.result in
    let same = ap (λ (one : BouquetShape). step_skip (bouquet_tree one) step c.point.result step.budget) c.steps.invariant.frontiers in
    learning-answered (bouquet_tree b) c.args.engine.now old (schedule_of ladder_of c.steps.schedule) (schedule_of ladder_of c.next.new.self) c.steps.runs c.steps.skips.items c.steps.lesson step
    c.steps.invariant.learning c.in_ok-next.ensures.goes_on c.attempt-step.ensures.step c.attempt-step.ensures.place c.attempt-step.ensures.cost
    c.point.result c.point.ensures (sym c.in_default.is ∙ c.in_ok-point.ensures.skip ∙ same) c.steps.invariant.keeps c.execute.new.engine c.execute.ensures.keeps
    c.in-Ok-Some.report c.steps.skips refl c.block.ensures.bouquet.costing (plans-of-bouquet b c.block.ensures.bouquet)
    (subst (λ (told : Option Report). TellsExecution old c.execute.new.engine (c.steps.runs + 1) step (Ok told)) c.in-Ok-Some.field-0-is c.in-Ok-Some.ensures.tells)

pub steps-preserved : goal.steps-preserved
steps-preserved c =
    let old = c.steps.engine in
    let step = c.attempt-step.result in
    let same = ap (λ (one : BouquetShape). step_skip (bouquet_tree one) step c.point.result step.budget) c.steps.invariant.frontiers in
    let lesson = c.learn.new.self in
    let ruled = subst (λ (shape : CostingShape). IfSome step.budget (λ budget. RulesOut (costing_tree shape) (plan_tree step.plan.now) budget c.steps.lesson.least lesson.least)) c.costing-costing.ensures c.learn.ensures.levels in
    let of_grid = subst (λ (shape : CostingShape). IfSome lesson.least (IsPoint shape.grid)) c.costing-costing.ensures c.learn.ensures.of_grid in
    record {
      learning = learning-on (bouquet_tree c.args.b.now) c.args.engine.now old (schedule_of ladder_of c.steps.schedule) (schedule_of ladder_of c.next.new.self) c.steps.runs c.steps.skips.items c.steps.lesson step
          c.steps.invariant.learning c.in_ok-next.ensures.goes_on c.attempt-step.ensures.step c.attempt-step.ensures.place c.attempt-step.ensures.cost
          c.point.result c.point.ensures (sym c.in_default.is ∙ c.in_ok-point.ensures.skip ∙ same) c.steps.invariant.keeps c.execute.new.engine c.execute.ensures.keeps
          lesson c.block.ensures.bouquet.costing.grid c.learn.ensures.some ruled of_grid (subst (λ (told : Option Report). TellsExecution old c.execute.new.engine (c.steps.runs + 1) step (Ok told)) c.in-Ok-None.field-0-is c.in-Ok-None.ensures.tells);
      frontiers = c.in_ok-point.ensures.same ∙ c.steps.invariant.frontiers;
      keeps = keeps-on c.args.engine.now old c.execute.new.engine c.steps.invariant.keeps c.execute.ensures.keeps;
    }
