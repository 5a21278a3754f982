-- What a turn makes of a job that runs.
use Rattle.std.proofs.Common.{◌≡◌, ◌∙◌, ℕ, ◌+◌, List, refl, sym, subst}
use Rattle.std.proofs.lemmas.List.Elements.{All-weaker}
use Rattle.std.specs.Prelude.{All, Option, Some, None, Result, Ok, Err}
use Rattle.row_stack.specs.declared.space.Space.{Space}
use Rattle.query_block.specs.Blocks.{BlockTree, width_of}
use Rattle.plan_tree.specs.declared.plan.Plan.{Plan}
use Rattle.plan_tree.specs.Plans.{PlanTree, plan_tree}
use Rattle.plan_tree.specs.Enumerated.{IsPlan}
use Rattle.db_catalog.specs.Database.{DatabaseState}
use Rattle.db_catalog.specs.Fits.{Fits}
use Rattle.db_catalog.specs.Meter.{MeterState}
use Rattle.exec_pipe.specs.Runs.{OnlyRunsWithin}
use Rattle.exec_pipe.specs.Scenes.{IsEmptyContext}
use Rattle.bouquet_type.specs.Trees.{BouquetTree}
use Rattle.bouquet_type.specs.Schedule.{Member}
use Rattle.bouquet_type.specs.Runs.{run_end}
use Rattle.bouquet_type.specs.Cursor.{AttemptTree, ScheduleState, TakesNext, attempt_at, members_left}
use Rattle.bouquet_type.specs.declared.report.Report.{Report}
use Rattle.bouquet_type.specs.declared.report.RunFault.{RunFault}
use Rattle.bouquet_type.specs.declared.report.RunFault.TheVariants.{WorkLimit, NoMemory}
use Rattle.bouquet_run.specs.Coming.{Coming, TellsStep, coming}
use Rattle.bouquet_run.specs.Outcomes.{AnswersRun, works_over}
use Rattle.bouquet_run.specs.Running.{IsUnderWay, Steps}
use Rattle.bouquet_run.proofs.Stepping.{bounded, plan-of-put, stays-on, steps}
use Rattle.turns.specs.Standing.{JobTask}
use Rattle.turns.specs.Jobs.{HasRun, IsJobOf, fresh_meter, fresh_space, progress_by, task_at}
use Rattle.turns.specs.declared.progress.Progress.TheVariants.{Running}

-- a job of this schedule runs that has taken so many turns, the next of which is this execution
module _ (meter : MeterState) (schedule : ScheduleState) (space : Space) (block : BlockTree) (most place : ℕ) (next : ScheduleState) (step : AttemptTree)
    (is : IsJobOf (task_at meter.database schedule block most) meter schedule space (Running place)) (takes : TakesNext schedule next) (at : step ≡ attempt_at next) where
  abbrev task : JobTask
  task = task_at meter.database schedule block most

  -- a plan of its bouquet is one of its block
  plan-on : (p : PlanTree) → IsPlan next.ladder.whole.costing.block p → IsPlan block p
  plan-on p plan = plan-of-put schedule.ladder.whole.costing.block block p is.block (subst (λ (whole : BouquetTree). IsPlan whole.costing.block p) takes.whole plan)

  -- and so are those that come
  pub coming-on : (plans : List Plan) → All (λ p. IsPlan next.ladder.whole.costing.block (plan_tree p)) plans → All (λ p. IsPlan block (plan_tree p)) plans
  coming-on plans are =
      All-weaker (λ p. IsPlan next.ladder.whole.costing.block (plan_tree p)) (λ p. IsPlan block (plan_tree p)) (λ p. plan-on (plan_tree p)) plans are

  -- its plan may be executed
  pub may-run : (p : PlanTree) → IsPlan next.ladder.whole.costing.block p → IsPlan block p × IsEmptyContext meter block space
  may-run p plan = (
    plan-on p plan,
    record { context = is.context; work = is.leaves.leaves.work.rows; result = is.has_run.rows },
  )

  abbrev work : PlanTree → ℕ
  work = works_over meter.database block

  abbrev comes : Coming
  comes = coming most meter.account.spent (place + 1) (work step.plan) step

  module _ (after : MeterState) (last : Space) (leaves : OnlyRunsWithin most meter after space last) where
    abbrev Tells : Result (Option Report) RunFault → Type 0
    Tells made = TellsStep meter.database block most comes after.account.spent last.result.rows made

    -- what its executions have come to
    stepped : (made : Result (Option Report) RunFault) → Tells made
        → Steps task.bouquet block most (run_end task.bouquet work) (fresh_meter meter.database) (fresh_space (width_of block)) (members_left schedule)
        (record { schedule = next; meter = after; space = last; runs = place + 1 }) made
    stepped made =
        steps task.bouquet block most (run_end task.bouquet work) (fresh_meter meter.database) (fresh_space (width_of block)) (members_left schedule)
        (record { schedule = schedule; meter = meter; space = space; runs = place }) next step is.has_run takes at refl after last leaves made

    has-run : (made : Result (Option Report) RunFault) → Tells made → HasRun task after next last (progress_by made (place + 1))
    has-run (Ok None) tells =
        subst (λ (members : List Member). IsUnderWay task.bouquet block most (run_end task.bouquet work) (fresh_meter meter.database) (fresh_space (width_of block)) members
        (record { schedule = next; meter = after; space = last; runs = place + 1 })) (sym takes.left) (stepped (Ok None) tells)
    has-run (Ok (Some report)) tells =
        let so = stepped (Ok (Some report)) tells in
        (so.0, so.1, bounded task.bouquet work report is.has_run.is.ladder.plans so.0.end)
    has-run (Err (WorkLimit told)) tells =
        subst (λ spent. AnswersRun task.bouquet block meter.database most after.account.spent last.result.rows (Err (WorkLimit spent))) tells.1
        (stepped (Err (WorkLimit told)) tells)
    has-run (Err NoMemory) tells = (tt, tells)

    -- what it is asked stays
    same-task : task_at after.database next block most ≡ task
    same-task = λ i. task_at (leaves.leaves.database i) (record { ladder = record { whole = takes.whole i; hand = next.ladder.hand; ahead = next.ladder.ahead }; given = next.given; budget = next.budget; number = next.number }) block most

    pub is-job : (made : Result (Option Report) RunFault) → Tells made → IsJobOf (task_at after.database next block most) after next last (progress_by made (place + 1))
    is-job made tells =
        let stays = leaves.leaves in
        subst (λ (task : JobTask). IsJobOf task after next last (progress_by made (place + 1))) (sym same-task) (record {
          block = is.block;
          context = record {
            scene = record {
              fits = subst (λ (database : DatabaseState). Fits database block) (sym stays.database) is.context.scene.fits;
              closed = is.context.scene.closed;
              width = stays.work.width ∙ is.context.scene.width;
            };
            width = stays.width ∙ is.context.width;
          };
          leaves = record {
            within = leaves.within;
            leaves = stays-on (fresh_meter meter.database) meter after (fresh_space (width_of block)) space last is.leaves.leaves stays;
          };
          has_run = has-run made tells;
        })
