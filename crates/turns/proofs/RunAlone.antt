-- A job ends as the run of its bouquet does alone.
use Rattle.std.proofs.Common.{◌≡◌, ◌∙◌, inl, inr, ℕ, zero, suc, ◌+◌, ◌<◌, ◌≤◌, Bool, true, false, if◌then◌else◌, List, length, refl, ap, sym, subst, arith}
use Rattle.std.specs.Prelude.{Option, Some, None}
use Rattle.std.proofs.lemmas.Bool.{cases_lt, lt-ltb, le-ltb, leb-true}
use Rattle.plan_tree.specs.Plans.{PlanTree}
use Rattle.exec_pipe.specs.Runs.{spends}
use Rattle.bouquet_type.specs.Schedule.{Member, final_plan, schedule}
use Rattle.bouquet_type.specs.Cursor.{AttemptTree, first_attempt, members_behind}
use Rattle.bouquet_type.specs.Runs.{RunEnd, end_behind, end_of, run_end, total_work}
use Rattle.bouquet_run.specs.Coming.{Coming, Passes, Ends, GoesOn, coming, is_done}
use Rattle.bouquet_run.proofs.Onward.{LeadsOn, leads-on}
use Rattle.bouquet_run.specs.Outcomes.{works_over}
use Rattle.turns.specs.Standing.{JobTask, Standing, Runs, Ended, Past, Lost, job_after, next_coming, stands_by, turn_of}

-- the total that an execution ends a run with, which is within what may be spent
abbrev total_in : Coming → ℕ
total_in Passes = 0
total_in (Ends end) = end.total
total_in (GoesOn spent) = 0

fits-done : (most spent work : ℕ) (budget : Option ℕ) → is_done budget work ≡ true → spent + spends budget work ≤ most → spent + work ≤ most
fits-done most spent work None done fits = fits
fits-done most spent work (Some budget) done fits = omega (arith, fits, leb-true work budget done)

fits-if : (most spent runs work : ℕ) (step : AttemptTree) (done : Bool) → is_done step.budget work ≡ done → spent + spends step.budget work ≤ most
    → total_in (if done then Ends (record { plan = step.plan; total = spent + work; runs = runs; contour = step.contour }) else GoesOn (spent + spends step.budget work)) ≤ most
fits-if most spent runs work step true done fits = fits-done most spent work step.budget done fits
fits-if most spent runs work step false done fits = omega arith

total-fits : (most spent runs work : ℕ) (step : AttemptTree) → total_in (coming most spent runs work step) ≤ most
total-fits most spent runs work step =
    elim (cases_lt most (spent + spends step.budget work)) [
      | inl past ↦ rw (lt-ltb most (spent + spends step.budget work) past) (omega arith)
      | inr fits ↦ rw (le-ltb most (spent + spends step.budget work) fits) (fits-if most spent runs work step (is_done step.budget work) refl fits)
    ]

module _ (task : JobTask) where
  abbrev work : PlanTree → ℕ
  work = works_over task.database task.block

  abbrev final : PlanTree
  final = final_plan task.bouquet

  -- what holds of a job that has taken so many turns: the rest of the run is left; or the run ended so; or it is past what may be spent
  abbrev pub IsOn : (count : ℕ) → Standing → Type 0
  IsOn count (Runs place spent left) =
      (run_end task.bouquet work ≡ end_behind spent place (end_of work left final)) × (place ≡ count) × (count + length left ≤ length (schedule task.bouquet))
  IsOn count (Ended end) = (end ≡ run_end task.bouquet work) × (end.total ≤ task.most)
  IsOn count Past = task.most < total_work task.bouquet work
  IsOn count Lost = ⊥

  on-by : (count place spent : ℕ) (left : List Member) (coming : Coming) → IsOn count (Runs place spent left) → LeadsOn work final task.most spent place left coming → total_in coming ≤ task.most
      → IsOn (count + 1) (stands_by coming (place + 1) (members_behind left))
  on-by count place spent left Passes is leads fits = omega (arith, leads, ap (λ (one : RunEnd). one.total) is.0)
  on-by count place spent left (Ends end) is leads fits = (leads ∙ sym is.0, fits)
  on-by count place spent left (GoesOn more) is leads fits = (is.0 ∙ leads.0, omega (arith, is.1), omega (arith, is.2, leads.1))

  on-next : (count : ℕ) (standing : Standing) → IsOn count standing → IsOn (count + 1) (turn_of task standing)
  on-next count (Runs place spent left) is =
      let step = first_attempt left final in
      on-by count place spent left (next_coming task place spent left) is (leads-on work final task.most spent place left) (total-fits task.most spent (place + 1) (work step.plan) step)
  on-next count (Ended end) is = is
  on-next count Past is = is
  on-next count Lost is = is

  pub each-on : (count : ℕ) → IsOn count (job_after task count)
  each-on zero =
      let end = run_end task.bouquet work in
      let total : end.total ≡ 0 + end.total = omega arith in
      let runs : end.runs ≡ 0 + end.runs = omega arith in
      ((λ i. record { plan = end.plan; total = total i; runs = runs i; contour = end.contour }), refl, omega arith)
  each-on (suc count) =
      let one : count + 1 ≡ suc count = omega arith in
      subst (λ n. IsOn n (job_after task (suc count))) one (on-next count (job_after task count) (each-on count))

  -- once more turns were taken than there are executions under a budget
  pub ends-so : (count : ℕ) (standing : Standing) → IsOn count standing → length (schedule task.bouquet) < count → total_work task.bouquet work ≤ task.most
      → standing ≡ Ended (run_end task.bouquet work)
  ends-so count (Runs place spent left) is over fits = absurd (omega (arith, is.2, over))
  ends-so count (Ended end) is over fits = ap Ended is.0
  ends-so count Past is over fits = absurd (omega (arith, is, fits))
  ends-so count Lost is over fits = absurd is

  pub passes-so : (count : ℕ) (standing : Standing) → IsOn count standing → length (schedule task.bouquet) < count → task.most < total_work task.bouquet work
      → standing ≡ Past
  passes-so count (Runs place spent left) is over past = absurd (omega (arith, is.2, over))
  passes-so count (Ended end) is over past = absurd (omega (arith, is.1, ap (λ (one : RunEnd). one.total) is.0, past))
  passes-so count Past is over past = refl
  passes-so count Lost is over past = absurd is
