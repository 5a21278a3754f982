-- What the next step of a run leads to, in the whole run.
use Rattle.std.proofs.Common.{◌≡◌, ◌∙◌, inl, inr, ℕ, ◌+◌, ◌<◌, min, List, [], ◌∷◌, length, true, false, nat_le, refl, ap, sym, arith}
use Rattle.std.proofs.lemmas.Bool.{le-leb, lt-leb, lt-ltb, le-ltb, cases_lt}
use Rattle.plan_tree.specs.Plans.{PlanTree}
use Rattle.bouquet_type.specs.Schedule.{Member}
use Rattle.bouquet_type.specs.Cursor.{first_attempt, members_behind}
use Rattle.bouquet_type.specs.Runs.{RunEnd, end_behind, end_of}
use Rattle.bouquet_run.specs.Coming.{Coming, Passes, Ends, GoesOn, coming}

-- what comes of the next one is told of that end: it has more work than the most; it is this one; or it is the end from behind
abbrev pub LeadsOn : (work : PlanTree → ℕ) → (final : PlanTree) → (most spent runs : ℕ) → List Member → Coming → Type 0
LeadsOn work final most spent runs members Passes = most < (end_behind spent runs (end_of work members final)).total
LeadsOn work final most spent runs members (Ends end) = end ≡ end_behind spent runs (end_of work members final)
LeadsOn work final most spent runs members (GoesOn spent') =
    (end_behind spent runs (end_of work members final) ≡ end_behind spent' (runs + 1) (end_of work (members_behind members) final)) × (length (members_behind members) < length members)

abbrev pub coming_next : (work : PlanTree → ℕ) → (final : PlanTree) → (most spent runs : ℕ) → List Member → Coming
coming_next work final most spent runs members =
    let step = first_attempt members final in
    coming most spent (runs + 1) (work step.plan) step

same-end : (plan : PlanTree) (contour total other_total runs other_runs : ℕ) → total ≡ other_total → runs ≡ other_runs
    → (let one : RunEnd = record { plan = plan; total = total; runs = runs; contour = contour } in one) ≡ record { plan = plan; total = other_total; runs = other_runs; contour = contour }
same-end plan contour total other_total runs other_runs totals counts = λ i. record { plan = plan; total = totals i; runs = counts i; contour = contour }

pub leads-on : (work : PlanTree → ℕ) (final : PlanTree) (most spent runs : ℕ) (members : List Member)
    → LeadsOn work final most spent runs members (coming_next work final most spent runs members)
leads-on work final most spent runs [] =
    elim (cases_lt most (spent + work final)) [
      | inl past ↦ rw (lt-ltb most (spent + work final) past) past
      | inr fits ↦ rw (le-ltb most (spent + work final) fits) refl
    ]
leads-on work final most spent runs (member ∷ more) =
    let spends_here = min (work member.plan) member.budget in
    let end = end_of work more final in
    elim (cases_lt member.budget (work member.plan)) [
      | inl over ↦
          let exhausted : nat_le (work member.plan) member.budget ≡ false = lt-leb _ _ over in
          let all : spends_here ≡ member.budget = omega (arith, over) in
          let behind : end_of work (member ∷ more) final ≡ end_behind member.budget 1 end = rw exhausted refl in
          elim (cases_lt most (spent + spends_here)) [
            | inl past ↦
                rw (lt-ltb most (spent + spends_here) past) (omega (arith, past, all, ap (λ (one : RunEnd). one.total) behind))
            | inr fits ↦
                rw (le-ltb most (spent + spends_here) fits) rw exhausted (
                  ap (end_behind spent runs) behind ∙ same-end end.plan end.contour (spent + (member.budget + end.total)) (spent + spends_here + end.total) (runs + (1 + end.runs)) (runs + 1 + end.runs) (omega (arith, all)) (omega arith),
                  omega arith,
                )
          ]
      | inr done ↦
          let is_done : nat_le (work member.plan) member.budget ≡ true = le-leb _ _ done in
          let all : spends_here ≡ work member.plan = omega (arith, done) in
          let last : end_of work (member ∷ more) final ≡ record { plan = member.plan; total = work member.plan; runs = 1; contour = member.contour } = rw is_done refl in
          elim (cases_lt most (spent + spends_here)) [
            | inl past ↦
                rw (lt-ltb most (spent + spends_here) past) (omega (arith, past, all, ap (λ (one : RunEnd). one.total) last))
            | inr fits ↦ rw (le-ltb most (spent + spends_here) fits) rw is_done (sym (ap (end_behind spent runs) last))
          ]
    ]
