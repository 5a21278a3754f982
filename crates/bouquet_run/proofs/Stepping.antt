-- From one execution of a run to the next.
use Rattle.std.proofs.Common.{◌≡◌, ◌∙◌, ℕ, ◌+◌, ◌≤◌, List, [], length, refl, ap, subst, sym, arith}
use Rattle.std.proofs.lemmas.List.Elements.{All-weaker}
use Rattle.std.specs.Prelude.{All, Option, None, Some, Result, Ok, Err}
use Rattle.row_stack.specs.declared.space.Space.{Space}
use Rattle.query_block.specs.Blocks.{BlockTree, IsPutOf, block_tree}
use Rattle.query_block.specs.Shape.{BlockShape}
use Rattle.plan_tree.specs.Plans.{PlanTree, plan_tree}
use Rattle.plan_tree.specs.declared.plan.Plan.{Plan}
use Rattle.plan_tree.specs.Enumerated.{IsPlan}
use Rattle.plan_tree.proofs.PutPlans.{put-plan}
use Rattle.db_catalog.specs.Database.{DatabaseState}
use Rattle.db_catalog.specs.Meter.{MeterState}
use Rattle.known_rows.proofs.Remembering.{remembers-on}
use Rattle.exec_pipe.specs.Engines.{KeepsEngine, MayExecute}
use Rattle.exec_pipe.specs.Runs.{OnlyRuns, OnlyRunsWithin}
use Rattle.exec_pipe.specs.declared.engine.Engine.{Engine}
use Rattle.bouquet_type.specs.Trees.{BouquetTree}
use Rattle.bouquet_type.specs.Schedule.{Member, final_plan}
use Rattle.bouquet_type.specs.Cursor.{AttemptTree, IsWholeSchedule, ScheduleState, TakesNext, attempt_at, first_attempt, members_left}
use Rattle.bouquet_type.specs.Bounded.{MeetsBound}
use Rattle.bouquet_type.specs.Reports.{told_end}
use Rattle.bouquet_type.specs.Runs.{RunEnd, end_behind, end_of, run_end}
use Rattle.bouquet_type.specs.declared.report.Report.{Report}
use Rattle.bouquet_type.specs.declared.report.RunFault.{RunFault}
use Rattle.bouquet_type.specs.declared.report.RunFault.TheVariants.{WorkLimit, NoMemory}
use Rattle.bouquet_type.proofs.Bound.{bound}
use Rattle.bouquet_run.specs.Coming.{Coming, Passes, Ends, GoesOn, TellsStep, coming}
use Rattle.bouquet_run.specs.Outcomes.{works_over}
use Rattle.bouquet_run.specs.Running.{IsUnderWay, RunState, Steps, run_state}
use Rattle.bouquet_run.proofs.Onward.{LeadsOn, leads-on}

-- a plan of a bouquet's block is one of the block with values put in
pub plan-of-put : (block put : BlockTree) (p : PlanTree) → IsPutOf block put → IsPlan block p → IsPlan put p
plan-of-put block put p is plan = subst (λ b. IsPlan b p) (sym is.is) ((put-plan is.values block p).1 plan)

-- what is left alone stays so
pub stays-on : (one other another : MeterState) (space next last : Space) → OnlyRuns one other space next → OnlyRuns other another next last → OnlyRuns one another space last
stays-on one other another space next last before after = record {
  never_falls = omega (arith, before.never_falls, after.never_falls);
  database = after.database ∙ before.database;
  work = record {
    rows = after.work.rows ∙ before.work.rows;
    width = after.work.width ∙ before.work.width;
    room = omega (arith, before.work.room, after.work.room);
  };
  width = after.width ∙ before.width;
  room = omega (arith, before.room, after.room);
}

-- an end behind no execution
behind-none : (end : RunEnd) → end ≡ end_behind 0 0 end
behind-none end =
    let total : end.total ≡ 0 + end.total = omega arith in
    let runs : end.runs ≡ 0 + end.runs = omega arith in
    λ i. record { plan = end.plan; total = total i; runs = runs i; contour = end.contour }

-- before the first execution
pub begun : (bouquet : BouquetTree) (block : BlockTree) (most : ℕ) (ending : RunEnd) (first : MeterState) (empty : Space) (due : List Member) (schedule : ScheduleState)
    → ending ≡ end_of (works_over first.database block) due (final_plan bouquet) → first.account.spent ≡ 0 → empty.result.rows ≡ [] → IsWholeSchedule bouquet schedule
    → IsUnderWay bouquet block most ending first empty due (record { schedule = schedule; meter = first; space = empty; runs = 0 })
begun bouquet block most ending first empty due schedule ends unspent rows whole =
    let work = works_over first.database block in
    let final = final_plan bouquet in
    record {
      end = ends ∙ behind-none (end_of work due final) ∙ ap (λ spent. end_behind spent 0 (end_of work due final)) (sym unspent);
      few = omega (arith, whole.few);
      is = whole.is;
      of = whole.whole;
      within = omega (arith, unspent);
      leaves = record { never_falls = omega arith; database = refl; work = record { rows = refl; width = refl; room = omega arith }; width = refl; room = omega arith };
      rows = rows;
    }

-- a run that ends as its bouquet's does is within the bound
pub bounded : (bouquet : BouquetTree) (work : PlanTree → ℕ) (report : Report) → All (λ contour. All (IsPlan bouquet.costing.block) contour.plans) bouquet.contours
    → told_end report ≡ run_end bouquet work → MeetsBound bouquet work report.work
bounded bouquet work report plans end = subst (MeetsBound bouquet work) (sym (ap (λ (one : RunEnd). one.total) end)) (bound bouquet work plans)

-- a run that ends so takes the next execution of its schedule, which is the first that is due
module _ (bouquet : BouquetTree) (block : BlockTree) (most : ℕ) (ending : RunEnd) (first : MeterState) (empty : Space) (due : List Member) (old : RunState) (next : ScheduleState) (attempt : AttemptTree)
    (is : IsUnderWay bouquet block most ending first empty due old) (takes : TakesNext old.schedule next) (at : attempt ≡ attempt_at next)
    (same : first_attempt (members_left old.schedule) (final_plan bouquet) ≡ first_attempt due (final_plan bouquet)) where
  abbrev work : PlanTree → ℕ
  work = works_over first.database block

  abbrev spent : ℕ
  spent = old.meter.account.spent

  abbrev left : List Member
  left = members_left old.schedule

  -- what comes of it, over the run's database and over that at hand, which is the same
  abbrev comes_over : DatabaseState → Coming
  comes_over database = coming most spent (old.runs + 1) (works_over database block attempt.plan) attempt

  abbrev pub comes : Coming
  comes = comes_over first.database

  first-left : attempt ≡ first_attempt left (final_plan bouquet)
  first-left = at ∙ takes.step ∙ ap (λ (whole : BouquetTree). first_attempt left (final_plan whole)) is.of

  abbrev comes_by : AttemptTree → Coming
  comes_by one = coming most spent (old.runs + 1) (work one.plan) one

  -- it is told of the end over any members whose first it is
  leads-over : (members : List Member) → attempt ≡ first_attempt members (final_plan bouquet) → (so_comes : Coming) → comes ≡ so_comes
      → LeadsOn work (final_plan bouquet) most spent old.runs members so_comes
  leads-over members first-of so_comes so =
      subst (LeadsOn work (final_plan bouquet) most spent old.runs members) (sym (ap comes_by first-of) ∙ so)
      (leads-on work (final_plan bouquet) most spent old.runs members)

  leads : (so_comes : Coming) → comes ≡ so_comes → LeadsOn work (final_plan bouquet) most spent old.runs due so_comes
  leads = leads-over due (first-left ∙ same)

  module _ (after : MeterState) (last : Space) (leaves : OnlyRunsWithin most old.meter after old.space last) where
    abbrev pub run : RunState
    run = record { schedule = next; meter = after; space = last; runs = old.runs + 1 }

    abbrev pub Tells : DatabaseState → Result (Option Report) RunFault → Type 0
    Tells database told = TellsStep database block most (comes_over database) after.account.spent last.result.rows told

    -- the database at hand is the run's
    pub tells-first : (told : Result (Option Report) RunFault) → Tells old.meter.database told → Tells first.database told
    tells-first told = subst (λ (database : DatabaseState). Tells database told) is.leaves.database

    pub steps : (told : Result (Option Report) RunFault) → Tells first.database told → Steps bouquet block most ending first empty due run told
    steps (Ok None) tells =
        let on = leads (GoesOn after.account.spent) tells.0 in
        let fewer = leads-over left first-left (GoesOn after.account.spent) tells.0 in
        record {
          end = is.end ∙ on.0;
          few = omega (arith, is.few, fewer.1, ap length takes.left);
          is = takes.at.is;
          of = takes.whole ∙ is.of;
          within = leaves.within;
          leaves = stays-on first old.meter after empty old.space last is.leaves leaves.leaves;
          rows = tells.1;
        }
    steps (Ok (Some report)) tells =
        (record { rows = tells.2; end = leads (Ends (told_end report)) tells.0 ∙ sym is.end; paid = tells.1; fits = subst (λ n. n ≤ most) tells.1 leaves.within }, tells.3)
    steps (Err (WorkLimit spent)) tells =
        ((omega (arith, leads Passes tells.0, ap (λ (one : RunEnd). one.total) is.end), tells.1, tells.2), tells.3)
    steps (Err NoMemory) tells = (tt, tells)

-- an engine that is kept twice
pub keeps-on : (first old new : Engine) → KeepsEngine first old → KeepsEngine old new → KeepsEngine first new
keeps-on first old new before after = record {
  engine = after.engine;
  leaves = record {
    within = subst (λ most. new.meter.now.account.spent ≤ most) before.lent.most after.leaves.within;
    leaves = stays-on first.meter.now old.meter.now new.meter.now first.space.now old.space.now new.space.now before.leaves.leaves after.leaves.leaves;
  };
  remembers = remembers-on before.remembers after.remembers;
  lent = record {
    block = after.lent.block ∙ before.lent.block;
    most = after.lent.most ∙ before.lent.most;
    meter = after.lent.meter ∙ before.lent.meter;
    space = after.lent.space ∙ before.lent.space;
    known = after.lent.known ∙ before.lent.known;
  };
}

-- so a run does over an engine, which it keeps
module _ (bouquet : BouquetTree) (ending : RunEnd) (first old new : Engine) (due : List Member) (schedule next : ScheduleState) (runs : ℕ) (attempt : AttemptTree)
    (is : IsUnderWay bouquet (block_tree first.block.now) first.max_work ending first.meter.now first.space.now due (run_state schedule old runs)) (keeps : KeepsEngine first old)
    (takes : TakesNext schedule next) (at : attempt ≡ attempt_at next) where
  -- a plan of its bouquet is one of the block at hand
  plan-at-hand : (p : PlanTree) → IsPutOf bouquet.costing.block (block_tree first.block.now) → IsPlan next.ladder.whole.costing.block p → IsPlan (block_tree old.block.now) p
  plan-at-hand p put of =
      let here = subst (λ (whole : BouquetTree). IsPlan whole.costing.block p) (takes.whole ∙ is.of) of in
      subst (λ (block : BlockShape). IsPlan (block_tree block) p) (sym keeps.lent.block) (plan-of-put bouquet.costing.block (block_tree first.block.now) p put here)

  -- and so are those that come
  pub coming-at-hand : (plans : List Plan) → IsPutOf bouquet.costing.block (block_tree first.block.now) → All (λ p. IsPlan next.ladder.whole.costing.block (plan_tree p)) plans
      → All (λ p. IsPlan (block_tree old.block.now) (plan_tree p)) plans
  coming-at-hand plans put of =
      All-weaker (λ p. IsPlan next.ladder.whole.costing.block (plan_tree p)) (λ p. IsPlan (block_tree old.block.now) (plan_tree p)) (λ p. plan-at-hand (plan_tree p) put) plans of

  -- its plan may be executed, where there were no work rows
  pub may-execute : (plan : Plan) → IsPutOf bouquet.costing.block (block_tree first.block.now) → IsPlan next.ladder.whole.costing.block (plan_tree plan) → first.space.now.work.rows ≡ []
      → MayExecute old plan
  may-execute plan put of none = record {
    engine = keeps.engine;
    runs = record {
      plan = plan-at-hand (plan_tree plan) put of;
      context = record { context = keeps.engine.context; work = keeps.leaves.leaves.work.rows ∙ none; result = is.rows };
    };
  }

  abbrev pub EngineTells : BlockShape → (most : ℕ) → DatabaseState → Result (Option Report) RunFault → Type 0
  EngineTells block most database told =
      TellsStep database (block_tree block) most (coming most old.meter.now.account.spent (runs + 1) (works_over database (block_tree block) attempt.plan) attempt)
      new.meter.now.account.spent new.space.now.result.rows told

  module _ (same : first_attempt (members_left schedule) (final_plan bouquet) ≡ first_attempt due (final_plan bouquet)) (kept : KeepsEngine old new) where
    pub engine-tells : (told : Result (Option Report) RunFault) → EngineTells old.block.now old.max_work old.meter.now.database told
        → EngineTells first.block.now first.max_work first.meter.now.database told
    engine-tells told tells =
        subst (λ (database : DatabaseState). EngineTells first.block.now first.max_work database told) is.leaves.database
        (subst (λ (most : ℕ). EngineTells first.block.now most old.meter.now.database told) keeps.lent.most
        (subst (λ (block : BlockShape). EngineTells block old.max_work old.meter.now.database told) keeps.lent.block tells))

    pub engine-steps : (told : Result (Option Report) RunFault) → EngineTells first.block.now first.max_work first.meter.now.database told
        → Steps bouquet (block_tree first.block.now) first.max_work ending first.meter.now first.space.now due (run_state next new (runs + 1)) told
    engine-steps told tells =
        let leaves = subst (λ most. OnlyRunsWithin most old.meter.now new.meter.now old.space.now new.space.now) keeps.lent.most kept.leaves in
        steps bouquet (block_tree first.block.now) first.max_work ending first.meter.now first.space.now due (run_state schedule old runs) next attempt is takes at same new.meter.now new.space.now leaves told tells
