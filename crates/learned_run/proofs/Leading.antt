-- What the next execution that isn't skipped leads to, and what the skip of a member does.
use Rattle.std.proofs.Common.{◌≡◌, inl, inr, ℕ, ◌+◌, ◌++◌, List, [], ◌∷◌, refl, ap, sym}
use Rattle.std.specs.Prelude.{Bool, true, false, None, is_some, nat_le, nat_lt}
use Rattle.std.proofs.lemmas.Bool.{cases_Bool}
use Rattle.plan_tree.specs.Plans.{PlanTree}
use Rattle.cost_model.specs.Costing.{CostingTree}
use Rattle.exec_pipe.specs.Runs.{spends}
use Rattle.bouquet_type.specs.Schedule.{Member}
use Rattle.bouquet_type.specs.Skipping.{without_skipped}
use Rattle.bouquet_type.specs.Cursor.{AttemptTree, first_attempt, members_behind}
use Rattle.bouquet_type.specs.Runs.{RunEnd}
use Rattle.bouquet_run.specs.Coming.{Passes, Ends, GoesOn, coming, is_done}
use Rattle.learned_run.specs.Skips.{is_skipped, skip_point, skips_among}

-- a plan that ends the run is done, and one that doesn't isn't
pub done-ends : (most spent runs work : ℕ) (step : AttemptTree) (end : RunEnd) → coming most spent runs work step ≡ Ends end → is_done step.budget work ≡ true
done-ends most spent runs work step end comes =
    elim (cases_Bool (nat_lt most (spent + spends step.budget work))) [
      | inl past ↦ let passes : Passes ≡ Ends end = rw past at comes in absurd cc
      | inr fits ↦
          elim (cases_Bool (is_done step.budget work)) [
            | inl done ↦ done
            | inr over ↦ let goes : GoesOn (spent + spends step.budget work) ≡ Ends end = rw (fits, over) at comes in absurd cc
          ]
    ]

pub over-goes : (most spent runs work : ℕ) (step : AttemptTree) (spent' : ℕ) → coming most spent runs work step ≡ GoesOn spent' → is_done step.budget work ≡ false
over-goes most spent runs work step spent' comes =
    elim (cases_Bool (nat_lt most (spent + spends step.budget work))) [
      | inl past ↦ let passes : Passes ≡ GoesOn spent' = rw past at comes in absurd cc
      | inr fits ↦
          elim (cases_Bool (is_done step.budget work)) [
            | inl done ↦
                let ends : Ends (record { plan = step.plan; total = spent + work; runs = runs; contour = step.contour }) ≡ GoesOn spent' = rw (fits, done) at comes in
                absurd cc
            | inr over ↦ over
          ]
    ]

-- the first of some members that isn't skipped stays the first, and what was skipped falls away
kept-first : (skip : List Member → Member → Bool) (before : List Member) (member : Member) (more : List Member) → skip before member ≡ false
    → without_skipped skip before (member ∷ more) ≡ member ∷ without_skipped skip (before ++ member ∷ []) more
kept-first skip before member more is = rw is refl

pub skipped-first : (skip : List Member → Member → Bool) (before : List Member) (member : Member) (more : List Member) → skip before member ≡ true
    → without_skipped skip before (member ∷ more) ≡ without_skipped skip before more
skipped-first skip before member more is = rw is refl

-- the first of some members isn't skipped
abbrev pub IsTriedFirst : CostingTree → (threshold : ℕ) → (exhausted : List Member) → List Member → Type 0
IsTriedFirst costing threshold exhausted [] = Unit {0}
IsTriedFirst costing threshold exhausted (member ∷ more) = skip_point costing threshold exhausted member ≡ None

module _ (costing : CostingTree) (threshold : ℕ) (exhausted : List Member) where
  abbrev rule : List Member → Member → Bool
  rule = is_skipped costing threshold

  -- it is the first that is due
  pub same-first : (members : List Member) (final : PlanTree) → IsTriedFirst costing threshold exhausted members
      → first_attempt members final ≡ first_attempt (without_skipped rule exhausted members) final
  same-first [] final tried = refl
  same-first (member ∷ more) final tried =
      sym (ap (λ (members : List Member). first_attempt members final) (kept-first rule exhausted member more (ap is_some tried)))

  pub behind-first : (member : Member) (more : List Member) → skip_point costing threshold exhausted member ≡ None
      → members_behind (without_skipped rule exhausted (member ∷ more)) ≡ without_skipped rule (exhausted ++ member ∷ []) more
  behind-first member more tried = ap members_behind (kept-first rule exhausted member more (ap is_some tried))

  -- no skip is behind one that is done, and none is told of one that isn't
  pub none-behind : (work : PlanTree → ℕ) (member : Member) (more : List Member) → skip_point costing threshold exhausted member ≡ None → nat_le (work member.plan) member.budget ≡ true
      → skips_among costing threshold work exhausted (member ∷ more) ≡ []
  none-behind work member more tried done = rw (tried, done) refl

  pub none-here : (work : PlanTree → ℕ) (member : Member) (more : List Member) → skip_point costing threshold exhausted member ≡ None → nat_le (work member.plan) member.budget ≡ false
      → skips_among costing threshold work exhausted (member ∷ more) ≡ skips_among costing threshold work (exhausted ++ member ∷ []) more
  none-here work member more tried over = rw (tried, over) refl
