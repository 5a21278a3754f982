-- What holds between two steps of a run that learns.
use Rattle.std.proofs.Common.{◌≡◌, ◌∙◌, inl, inr, ℕ, ◌+◌, ◌-◌, ◌<◌, ◌≤◌, ◌++◌, List, [], ◌∷◌, length, refl, ap, ap₂, sym, subst, arith, append_assoc}
use Rattle.std.specs.Prelude.{All, Bool, Vec, true, false, Option, Some, None, IfSome, IsSomeAnd, Result, Ok, Err, is_some, nat_le, if◌then◌else◌}
use Rattle.std.specs.declared.alloc.Global.{Global}
use Rattle.std.proofs.lemmas.Bool.{cases_Bool}
use Rattle.std.proofs.lemmas.List.{append-nil}
use Rattle.std.proofs.lemmas.List.Elements.{All-nil, All-head, All-tail, All-push}
use Rattle.std.proofs.lemmas.Option.{slice_get_within}
use Rattle.ess_grid.specs.Points.{IsGrid, IsPoint}
use Rattle.query_block.specs.Blocks.{block_tree}
use Rattle.query_block.specs.Shape.{BlockShape}
use Rattle.plan_tree.specs.Plans.{PlanTree, plan_tree}
use Rattle.plan_tree.specs.Enumerated.{IsPlan}
use Rattle.db_catalog.specs.Database.{DatabaseState}
use Rattle.exec_pipe.specs.Engines.{KeepsEngine}
use Rattle.exec_pipe.specs.declared.engine.Engine.{Engine}
use Rattle.cost_model.specs.Costing.{IsCosting}
use Rattle.cost_model.specs.Frontier.{frontier}
use Rattle.bouquet_type.specs.Trees.{BouquetTree, ContourTree}
use Rattle.bouquet_type.specs.Schedule.{Member, final_plan, schedule}
use Rattle.bouquet_type.specs.Ladders.{AreTried}
use Rattle.bouquet_type.specs.Bounded.{IsWithinBound}
use Rattle.bouquet_type.specs.Cursor.{AttemptTree, IsSchedule, IsWholeSchedule, ScheduleState, StandsAtFirst, TakesNext, attempt_at, attempt_tree, first_attempt, members_behind, members_left}
use Rattle.bouquet_type.specs.Reports.{told_end}
use Rattle.bouquet_type.specs.Runs.{RunEnd, end_behind, end_of}
use Rattle.bouquet_type.specs.Skipping.{without_skipped}
use Rattle.bouquet_type.specs.declared.schedule.Attempt.{Attempt}
use Rattle.bouquet_type.specs.declared.report.Report.{Report}
use Rattle.bouquet_type.specs.declared.report.RunFault.{RunFault}
use Rattle.bouquet_run.specs.Coming.{is_done}
use Rattle.bouquet_run.specs.Outcomes.{works_over}
use Rattle.bouquet_run.specs.Running.{IsUnderWay, Steps, run_state}
use Rattle.bouquet_run.proofs.Stepping.{EngineTells, begun, engine-steps, engine-tells}
use Rattle.learned_run.specs.declared.learned.Skip.{Skip}
use Rattle.learned_run.specs.declared.lesson.Lesson.{Lesson}
use Rattle.learned_run.specs.Learning.{learned_point}
use Rattle.learned_run.specs.Skips.{IsSkipOf, covers_above, is_skipped, learned_end, skip_by, skip_point, skips_among, skips_of}
use Rattle.learned_run.specs.Outcomes.{AnswersLearned}
use Rattle.learned_run.specs.Raising.{IsLearned, RulesOut}
use Rattle.learned_run.specs.Covering.{IsMemberOf, member_of, step_skip}
use Rattle.learned_run.proofs.RuledOut.{learned-is, learned-more}
use Rattle.learned_run.proofs.Members.{members-are}
use Rattle.learned_run.proofs.Unskipped.{learned-bound}
use Rattle.learned_run.proofs.Leading.{IsTriedFirst, behind-first, done-ends, none-behind, none-here, over-goes, same-first, skipped-first}

-- the executions that are due among some members, where these were exhausted; and the skips among them
abbrev pub due_among : BouquetTree → (exhausted : List Member) → List Member → List Member
due_among bouquet exhausted left = without_skipped (is_skipped bouquet.costing bouquet.threshold) exhausted left

abbrev skips_due : BouquetTree → (work : PlanTree → ℕ) → (exhausted : List Member) → List Member → List Skip
skips_due bouquet work exhausted left = skips_among bouquet.costing bouquet.threshold work exhausted left

-- what each plan works in a run that began with this engine
abbrev pub works_of : Engine → PlanTree → ℕ
works_of first = works_over first.meter.now.database (block_tree first.block.now)

-- a run of a bouquet that began with one engine learns: its executions were exhausted, these were skipped, and this lesson was
-- drawn of them
pub record IsLearning (bouquet : BouquetTree) (first engine : Engine) (schedule : ScheduleState) (runs : ℕ) (skips : List Skip) (lesson : Lesson) : Type 0 where
  pub exhausted : List Member
  pub learned : IsLearned bouquet.costing exhausted lesson.some lesson.least
  pub running : IsUnderWay bouquet (block_tree first.block.now) first.max_work (learned_end bouquet (works_of first)) first.meter.now first.space.now
      (due_among bouquet exhausted (members_left schedule)) (run_state schedule engine runs)
  pub told : skips_of bouquet (works_of first) ≡ skips ++ skips_due bouquet (works_of first) exhausted (members_left schedule)
  pub exist : All (IsSkipOf bouquet) skips
  pub members : All (IsMemberOf bouquet) (members_left schedule)

-- before the first one
pub learning-begun : (bouquet : BouquetTree) (first : Engine) (state : ScheduleState) (lesson : Lesson) → IsLearned bouquet.costing [] lesson.some lesson.least
    → first.meter.now.account.spent ≡ 0 → first.space.now.result.rows ≡ [] → IsWholeSchedule bouquet state → IsLearning bouquet first first state 0 [] lesson
learning-begun bouquet first state lesson learned unspent rows whole =
    let work = works_of first in
    let all : schedule bouquet ≡ members_left state = sym whole.members in
    record {
      exhausted = [];
      learned = learned;
      running = begun bouquet (block_tree first.block.now) first.max_work (learned_end bouquet work) first.meter.now first.space.now (due_among bouquet [] (members_left state)) state
          (ap (λ (members : List Member). end_of work (due_among bouquet [] members) (final_plan bouquet)) all) unspent rows whole;
      told = ap (skips_due bouquet work []) all;
      exist = All-nil (IsSkipOf bouquet);
      members = subst (All (IsMemberOf bouquet)) all (members-are bouquet);
    }

-- an execution is that of the first of some members; or the last one where there is none
abbrev pub IsStepAt : List Member → Attempt → Type 0
IsStepAt [] step = step.budget ≡ None
IsStepAt (member ∷ more) step = (step.budget ≡ Some member.budget) × (member_of step member.budget ≡ member)

first-step : (members : List Member) (final : PlanTree) (state : ScheduleState) (step : Attempt) → attempt_tree step ≡ first_attempt members final → StandsAtFirst members state
    → step.place ≡ state.given → step.cost ≡ state.ladder.hand.cost → IsStepAt members step
first-step [] final state step is at place cost = ap (λ (one : AttemptTree). one.budget) is
first-step (member ∷ more) final state step is at place cost =
    let plan : plan_tree step.plan.now ≡ member.plan = ap (λ (one : AttemptTree). one.plan) is in
    let contour : step.contour ≡ member.contour = ap (λ (one : AttemptTree). one.contour) is in
    let places : step.place ≡ member.place = place ∙ at.0 in
    let costs : step.cost ≡ member.cost = cost ∙ at.1 in (
      ap (λ (one : AttemptTree). one.budget) is,
      λ i. record { plan = plan i; budget = member.budget; contour = contour i; place = places i; cost = costs i },
    )

step-at : (old new : ScheduleState) (step : Attempt) → TakesNext old new → attempt_tree step ≡ attempt_at new → step.place ≡ new.given → step.cost ≡ new.ladder.hand.cost
    → IsStepAt (members_left old) step
step-at old new step takes is = first-step (members_left old) (final_plan old.ladder.whole) new step (is ∙ takes.step) takes.first

member-step : (bouquet : BouquetTree) (left : List Member) (step : Attempt) → All (IsMemberOf bouquet) left → IsStepAt left step
    → IfSome step.budget (λ budget. IsMemberOf bouquet (member_of step budget))
member-step bouquet [] step members at = subst (λ (budget : Option ℕ). IfSome budget (λ budget. IsMemberOf bouquet (member_of step budget))) (sym at) tt
member-step bouquet (member ∷ more) step members at =
    subst (λ (budget : Option ℕ). IfSome budget (λ budget. IsMemberOf bouquet (member_of step budget))) (sym at.0) (subst (IsMemberOf bouquet) (sym at.1) (All-head (IsMemberOf bouquet) member more members))

-- its place is one on a contour
pub place-few : (state : ScheduleState) → IsSchedule state → state.given ≤ 4096
place-few state is =
    let hand = All-head (AreTried state.ladder.whole.costing.block) state.ladder.hand state.ladder.ahead is.ladder.tried in
    omega (arith, is.given, hand.few)

-- by which point it is skipped
skip-first : (bouquet : BouquetTree) (exhausted : List Member) (member : Member) (more : List Member) (step : Attempt) (learned : Option (List ℕ)) → learned ≡ learned_point bouquet.costing exhausted
    → IsStepAt (member ∷ more) step → step_skip bouquet step learned step.budget ≡ skip_point bouquet.costing bouquet.threshold exhausted member
skip-first bouquet exhausted member more step learned is at =
    ap (step_skip bouquet step learned) at.0
    ∙ ap (λ (one : Member). skip_by bouquet.costing bouquet.threshold one learned) at.1
    ∙ ap (skip_by bouquet.costing bouquet.threshold member) is

tried-first : (bouquet : BouquetTree) (exhausted left : List Member) (step : Attempt) (learned : Option (List ℕ)) → learned ≡ learned_point bouquet.costing exhausted
    → IsStepAt left step → None ≡ step_skip bouquet step learned step.budget → IsTriedFirst bouquet.costing bouquet.threshold exhausted left
tried-first bouquet exhausted [] step learned is at none = tt
tried-first bouquet exhausted (member ∷ more) step learned is at none =
    sym (none ∙ skip-first bouquet exhausted member more step learned is at)

-- what is learned so far is a point of the grid
learned-point : (P : List ℕ → Type 0) (some : Bool) (least : Option (List ℕ)) (point : List ℕ) → IfSome least P → (if some then least else None) ≡ Some point → P point
learned-point P true least point of_grid is = subst (λ (one : Option (List ℕ)). IfSome one P) is of_grid
learned-point P false least point of_grid is = absurd cc

skip-by-learned : (bouquet : BouquetTree) (member : Member) (learned : Option (List ℕ)) (point : List ℕ) → skip_by bouquet.costing bouquet.threshold member learned ≡ Some point → learned ≡ Some point
skip-by-learned bouquet member None point is = absurd cc
skip-by-learned bouquet member (Some learned) point is =
    elim (cases_Bool (covers_above bouquet.costing bouquet.threshold member.plan learned (frontier bouquet.costing member.cost))) [
      | inl covers ↦ let none : None ≡ Some point = rw covers at is in absurd cc
      | inr fails ↦ rw fails at is
    ]

member-skip : (bouquet : BouquetTree) (member : Member) (point : List ℕ) → IsMemberOf bouquet member → IsPoint bouquet.costing.grid point → IsSkipOf bouquet (record { contour = member.contour; plan = member.place; point = point })
member-skip bouquet member point is is_point =
    let within : member.place - 1 < length is.contour.plans = slice_get_within is.contour.plans (member.place - 1) member.plan is.plan in
    let place : member.place ≤ length is.contour.plans = omega (arith, within) in
    record {
      contour = is.numbered.0;
      place = is.some;
      there = subst (λ (at : Option ContourTree). IsSomeAnd at (λ contour. member.place ≤ length contour.plans)) (sym is.numbered.1) place;
      point = is_point;
    }

module _ (bouquet : BouquetTree) (work : PlanTree → ℕ) (exhausted : List Member) (step : Attempt) where
  -- the first of some members is skipped
  record SkipsFirst (skip : Skip) (left : List Member) : Type 0 where
    pub due : due_among bouquet exhausted left ≡ due_among bouquet exhausted (members_behind left)
    pub skips : skips_due bouquet work exhausted left ≡ skip ∷ skips_due bouquet work exhausted (members_behind left)
    pub exists : IsSkipOf bouquet skip
    pub members : All (IsMemberOf bouquet) (members_behind left)
    pub fewer : length (members_behind left) < length left

  skips-first : (learned : Option (List ℕ)) (point : List ℕ) (left : List Member) → learned ≡ learned_point bouquet.costing exhausted → (learned ≡ Some point → IsPoint bouquet.costing.grid point)
      → All (IsMemberOf bouquet) left → IsStepAt left step → Some point ≡ step_skip bouquet step learned step.budget
      → SkipsFirst (record { contour = step.contour; plan = step.place; point = point }) left
  skips-first learned point [] same of_grid members at skip =
      let none : Some point ≡ None = skip ∙ ap (step_skip bouquet step learned) at in
      absurd cc
  skips-first learned point (member ∷ more) same of_grid members at skip =
      let skipped : skip_point bouquet.costing bouquet.threshold exhausted member ≡ Some point = sym (skip ∙ skip-first bouquet exhausted member more step learned same at) in
      let by : skip_by bouquet.costing bouquet.threshold member learned ≡ Some point = ap (skip_by bouquet.costing bouquet.threshold member) same ∙ skipped in
      let own : Skip = record { contour = member.contour; plan = member.place; point = point } in
      let told = ap (λ (one : Member). let skip : Skip = record { contour = one.contour; plan = one.place; point = point } in skip) at.1 in
      let here : skips_due bouquet work exhausted (member ∷ more) ≡ own ∷ skips_due bouquet work exhausted more = rw skipped refl in
      record {
        due = skipped-first (is_skipped bouquet.costing bouquet.threshold) exhausted member more (ap is_some skipped);
        skips = here ∙ ap (λ (one : Skip). one ∷ skips_due bouquet work exhausted more) (sym told);
        exists = subst (IsSkipOf bouquet) (sym told)
            (member-skip bouquet member point (All-head (IsMemberOf bouquet) member more members) (of_grid (skip-by-learned bouquet member learned point by)));
        members = All-tail (IsMemberOf bouquet) member more members;
        fewer = omega arith;
      }

  -- whether the first of some members is done
  done-so : (member : Member) (more : List Member) (done : Bool) → IsStepAt (member ∷ more) step → is_done step.budget (work (plan_tree step.plan.now)) ≡ done
      → nat_le (work member.plan) member.budget ≡ done
  done-so member more done at is =
      sym (ap₂ (λ (budget : Option ℕ) (p : PlanTree). is_done budget (work p)) at.0 (ap (λ (one : Member). one.plan) at.1)) ∙ is

  none-left : (left : List Member) → IsStepAt left step → IsTriedFirst bouquet.costing bouquet.threshold exhausted left → is_done step.budget (work (plan_tree step.plan.now)) ≡ true
      → skips_due bouquet work exhausted left ≡ []
  none-left [] at tried done = refl
  none-left (member ∷ more) at tried done =
      none-behind bouquet.costing bouquet.threshold exhausted work member more tried (done-so member more true at done)

  -- it is exhausted
  record ExhaustsFirst (left : List Member) : Type 0 where
    pub member : Member
    pub budget : step.budget ≡ Some member.budget
    pub plan : plan_tree step.plan.now ≡ member.plan
    pub due : members_behind (due_among bouquet exhausted left) ≡ due_among bouquet (exhausted ++ member ∷ []) (members_behind left)
    pub skips : skips_due bouquet work exhausted left ≡ skips_due bouquet work (exhausted ++ member ∷ []) (members_behind left)
    pub members : All (IsMemberOf bouquet) (members_behind left)

  exhausts-first : (left : List Member) → All (IsMemberOf bouquet) left → IsStepAt left step → IsTriedFirst bouquet.costing bouquet.threshold exhausted left
      → is_done step.budget (work (plan_tree step.plan.now)) ≡ false → ExhaustsFirst left
  exhausts-first [] members at tried over =
      let done : true ≡ false = sym (ap (λ (budget : Option ℕ). is_done budget (work (plan_tree step.plan.now))) at) ∙ over in
      absurd cc
  exhausts-first (member ∷ more) members at tried over = record {
    member = member;
    budget = at.0;
    plan = ap (λ (one : Member). one.plan) at.1;
    due = behind-first bouquet.costing bouquet.threshold exhausted member more tried;
    skips = none-here bouquet.costing bouquet.threshold exhausted work member more tried (done-so member more false at over);
    members = All-tail (IsMemberOf bouquet) member more members;
  }

-- a run that learns comes to its next execution
module _ (bouquet : BouquetTree) (first old : Engine) (now next : ScheduleState) (runs : ℕ) (skips : List Skip) (lesson : Lesson) (step : Attempt)
    (is : IsLearning bouquet first old now runs skips lesson) (takes : TakesNext now next) (at : attempt_tree step ≡ attempt_at next) (place : step.place ≡ next.given)
    (cost : step.cost ≡ next.ladder.hand.cost) where
  abbrev work : PlanTree → ℕ
  work = works_of first

  abbrev left : List Member
  left = members_left now

  stands : IsStepAt left step
  stands = step-at now next step takes at place cost

  pub step-of : IfSome step.budget (λ budget. IsMemberOf bouquet (member_of step budget))
  step-of = member-step bouquet left step is.members stands

  module _ (learned : Option (List ℕ)) (same : learned ≡ (if lesson.some then lesson.least else None)) where
    learned-so : learned ≡ learned_point bouquet.costing is.exhausted
    learned-so = same ∙ learned-is bouquet.costing is.exhausted lesson.some lesson.least is.learned

    -- it is skipped
    pub learning-skipped : (point : List ℕ) → Some point ≡ step_skip bouquet step learned step.budget
        → IsLearning bouquet first old next runs (skips ++ record { contour = step.contour; plan = step.place; point = point } ∷ []) lesson
    learning-skipped point skip =
        let one : Skip = record { contour = step.contour; plan = step.place; point = point } in
        let so = skips-first bouquet work is.exhausted step learned point left learned-so
        (λ told. learned-point (IsPoint bouquet.costing.grid) lesson.some lesson.least point is.learned.of_grid (sym same ∙ told)) is.members stands skip in
        record {
          exhausted = is.exhausted;
          learned = is.learned;
          running = record {
            end = is.running.end
                ∙ ap (λ due. end_behind old.meter.now.account.spent runs (end_of work due (final_plan bouquet))) (so.due ∙ ap (due_among bouquet is.exhausted) (sym takes.left));
            few = omega (arith, is.running.few, so.fewer, ap length takes.left);
            is = takes.at.is;
            of = takes.whole ∙ is.running.of;
            within = is.running.within;
            leaves = is.running.leaves;
            rows = is.running.rows;
          };
          told = is.told ∙ ap (λ (others : List Skip). skips ++ others) (so.skips ∙ ap (λ (members : List Member). one ∷ skips_due bouquet work is.exhausted members) (sym takes.left))
              ∙ sym (append_assoc skips (one ∷ []) (skips_due bouquet work is.exhausted (members_left next)));
          exist = All-push (IsSkipOf bouquet) skips one is.exist so.exists;
          members = subst (All (IsMemberOf bouquet)) (sym takes.left) so.members;
        }

    -- it is executed
    module _ (none : None ≡ step_skip bouquet step learned step.budget) (keeps : KeepsEngine first old) (new : Engine) (kept : KeepsEngine old new) where
      tried : IsTriedFirst bouquet.costing bouquet.threshold is.exhausted left
      tried = tried-first bouquet is.exhausted left step learned learned-so stands none

      abbrev due : List Member
      due = due_among bouquet is.exhausted left

      abbrev ending : RunEnd
      ending = learned_end bouquet work

      same-attempt : first_attempt left (final_plan bouquet) ≡ first_attempt due (final_plan bouquet)
      same-attempt = same-first bouquet.costing bouquet.threshold is.exhausted left (final_plan bouquet) tried

      abbrev pub Tells : BlockShape → (most : ℕ) → DatabaseState → Result (Option Report) RunFault → Type 0
      Tells = EngineTells bouquet ending first old new due now next runs (attempt_tree step) is.running keeps takes at

      tells-so : (told : Result (Option Report) RunFault) → Tells old.block.now old.max_work old.meter.now.database told → Tells first.block.now first.max_work first.meter.now.database told
      tells-so = engine-tells bouquet ending first old new due now next runs (attempt_tree step) is.running keeps takes at same-attempt kept

      stepped : (told : Result (Option Report) RunFault) → Tells old.block.now old.max_work old.meter.now.database told
          → Steps bouquet (block_tree first.block.now) first.max_work ending first.meter.now first.space.now due (run_state next new (runs + 1)) told
      stepped told tells = engine-steps bouquet ending first old new due now next runs (attempt_tree step) is.running keeps takes at same-attempt kept told (tells-so told tells)

      pub learning-refused : (fault : RunFault) → Tells old.block.now old.max_work old.meter.now.database (Err fault) → AnswersLearned bouquet (block_tree first.block.now) first.meter.now.database first.max_work new.meter.now.account.spent new.space.now.result.rows (Err fault)
      learning-refused fault = stepped (Err fault)

      pub learning-answered : (report : Report) (noted : Vec Skip Global) → noted.items ≡ skips → IsCosting bouquet.costing → All (λ contour. All (IsPlan bouquet.costing.block) contour.plans) bouquet.contours
          → Tells old.block.now old.max_work old.meter.now.database (Ok (Some report)) → AnswersLearned bouquet (block_tree first.block.now) first.meter.now.database first.max_work new.meter.now.account.spent new.space.now.result.rows (Ok (record { report = report; skips = noted }))
      learning-answered report noted same_skips costing plans tells =
          let so = stepped (Ok (Some report)) tells in
          let done = done-ends first.max_work old.meter.now.account.spent (runs + 1) (work (plan_tree step.plan.now)) (attempt_tree step) (told_end report) (tells-so (Ok (Some report)) tells).0 in
          let total : ending.total ≡ report.work = sym (ap (λ (one : RunEnd). one.total) so.0.end) in (
            record {
              rows = so.0.rows;
              end = so.0.end;
              skips = same_skips ∙ sym (is.told ∙ ap (λ (others : List Skip). skips ++ others) (none-left bouquet work is.exhausted step left stands tried done) ∙ append-nil skips);
              exist = subst (All (IsSkipOf bouquet)) (sym same_skips) is.exist;
              paid = so.0.paid;
              fits = so.0.fits;
              bound = λ compiled. subst (IsWithinBound bouquet work) total (learned-bound bouquet work costing plans compiled);
            },
            so.1,
          )

      -- it is exhausted, and this lesson is drawn
      pub learning-on : (after_it : Lesson) → IsGrid bouquet.costing.grid → IfSome step.budget (λ _. after_it.some ≡ true)
          → IfSome step.budget (λ budget. RulesOut bouquet.costing (plan_tree step.plan.now) budget lesson.least after_it.least) → IfSome after_it.least (IsPoint bouquet.costing.grid) → Tells old.block.now old.max_work old.meter.now.database (Ok None)
          → IsLearning bouquet first new next (runs + 1) skips after_it
      learning-on after_it is_grid learns rules of_grid tells =
          let costing = bouquet.costing in
          let on = stepped (Ok None) tells in
          let over = over-goes first.max_work old.meter.now.account.spent (runs + 1) (work (plan_tree step.plan.now)) (attempt_tree step) new.meter.now.account.spent (tells-so (Ok None) tells).0 in
          let so = exhausts-first bouquet work is.exhausted step left is.members stands tried over in
          let more = is.exhausted ++ so.member ∷ [] in
          let some : after_it.some ≡ true = subst (λ (budget : Option ℕ). IfSome budget (λ _. after_it.some ≡ true)) so.budget learns in
          let ruled : RulesOut costing (plan_tree step.plan.now) so.member.budget lesson.least after_it.least =
          subst (λ (budget : Option ℕ). IfSome budget (λ b. RulesOut costing (plan_tree step.plan.now) b lesson.least after_it.least)) so.budget rules in
          let learned_more = learned-more costing is.exhausted so.member lesson.some lesson.least after_it.least is_grid is.learned
          (subst (λ p. RulesOut costing p so.member.budget lesson.least after_it.least) so.plan ruled) of_grid in
          record {
            exhausted = more;
            learned = subst (λ (one : Bool). IsLearned costing more one after_it.least) (sym some) learned_more;
            running = subst (λ (members : List Member). IsUnderWay bouquet (block_tree first.block.now) first.max_work ending first.meter.now first.space.now members (run_state next new (runs + 1))) (so.due ∙ ap (due_among bouquet more) (sym takes.left)) on;
            told = is.told ∙ ap (λ (others : List Skip). skips ++ others) (so.skips ∙ ap (skips_due bouquet work more) (sym takes.left));
            exist = is.exist;
            members = subst (All (IsMemberOf bouquet)) (sym takes.left) so.members;
          }
