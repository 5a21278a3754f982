-- From one execution of a schedule to the next.
use Rattle.std.proofs.Common.{◌≡◌, ◌∙◌, ℕ, zero, suc, ◌+◌, ◌<◌, ◌≤◌, ◌++◌, List, [], ◌∷◌, drop, length, slice_index_or, refl, ap, sym, subst, arith}
use Rattle.std.proofs.lemmas.Grind.{common_steps}
use Rattle.std.specs.Prelude.{All, Option, Some, None}
use Rattle.std.proofs.lemmas.List.{drop_all, drop_more}
use Rattle.std.proofs.lemmas.List.Elements.{All-head, All-tail}
use Rattle.plan_tree.specs.Plans.{PlanTree, Scan}
use Rattle.bouquet_type.specs.Trees.{BouquetTree, ContourTree}
use Rattle.bouquet_type.specs.Budgets.{budget_of}
use Rattle.bouquet_type.specs.Schedule.{Member, final_plan, last_plan, members_on, members_from, schedule}
use Rattle.bouquet_type.specs.Ladders.{AreTried, LadderState, IsLadder, StandsAtFoot, foot_of}
use Rattle.bouquet_type.proofs.Climbing.{few-members}
use Rattle.bouquet_type.specs.Cursor.{AttemptTree, ScheduleState, IsSchedule, IsWholeSchedule, StandsAtFirst, TakesNext, first_attempt, members_behind, members_left}

-- the last of some plans, by its place
last-placed : (plans : List PlanTree) (place : ℕ) → place + 1 ≡ length plans → slice_index_or plans place (Scan 0) ≡ last_plan plans
last-placed [] place at = absurd (omega (arith, at))
last-placed (p ∷ []) zero at = refl
last-placed (p ∷ []) (suc place) at = absurd (omega (arith, at))
last-placed (p ∷ other ∷ more) zero at = absurd (omega (arith, at))
last-placed (p ∷ other ∷ more) (suc place) at = last-placed (other ∷ more) place (omega (arith, at))

-- the schedule that stands so
abbrev pub schedule_at : LadderState → (given : ℕ) → (budget : Option ℕ) → (number : ℕ) → ScheduleState
schedule_at ladder given budget number = record { ladder = ladder; given = given; budget = budget; number = number }

abbrev attempt_of : (budget : Option ℕ) → (contour : ℕ) → PlanTree → AttemptTree
attempt_of budget contour plan = record { plan = plan; budget = budget; contour = contour }

-- it stands at the first of those that are left, or none is left
at-first : (left : List Member) (member : Member) (more : List Member) (s : ScheduleState) → left ≡ member ∷ more
    → s.given ≡ member.place → s.ladder.hand.cost ≡ member.cost → StandsAtFirst left s
at-first left member more s are place cost = subst (λ members. StandsAtFirst members s) (sym are) (place, cost)

at-none : (left : List Member) (s : ScheduleState) → left ≡ [] → StandsAtFirst left s
at-none left s none = subst (λ members. StandsAtFirst members s) (sym none) tt

-- the next plan of the contour at hand
pub next-plan : (ladder : LadderState) (given number : ℕ) (budget : Option ℕ) → IsSchedule (schedule_at ladder given budget number) → given < length ladder.hand.plans
    → TakesNext (schedule_at ladder given budget number) (schedule_at ladder (given + 1) budget number)
next-plan ladder given number None is more = absurd (omega (arith, more, (is.ended refl).1))
next-plan ladder given number (Some budget) is more =
    let plans = ladder.hand.plans in
    let plan = slice_index_or plans given (Scan 0) in
    let cost = ladder.hand.cost in
    let later = members_from ladder.whole.threshold (number + 1) ladder.ahead in
    let members : members_left (schedule_at ladder given (Some budget) number)
    ≡ record { plan = plan; budget = budget; contour = number; place = given + 1; cost = cost } ∷ (members_on budget number cost (given + 1 + 1) (drop (given + 1) plans) ++ later) =
    ap (λ left. members_on budget number cost (given + 1) left ++ later) (drop_more plans given (Scan 0) more) in
    record {
      at = record {
        is = record { ladder = is.ladder; given = omega (arith, more); few = is.few; ended = λ none. cc };
        some = omega arith;
      };
      step = ap (λ place. attempt_of (Some budget) number (slice_index_or plans place (Scan 0))) (omega arith)
          ∙ sym (ap (λ left. first_attempt left (final_plan ladder.whole)) members);
      first = at-first (members_left (schedule_at ladder given (Some budget) number)) _ _ (schedule_at ladder (given + 1) (Some budget) number) members refl refl;
      left = sym (ap members_behind members);
      whole = refl;
    }

-- no plan of the contour at hand is left
all-given : (ladder : LadderState) (given number budget : ℕ) → given ≡ length ladder.hand.plans
    → members_left (schedule_at ladder given (Some budget) number) ≡ members_from ladder.whole.threshold (number + 1) ladder.ahead
all-given ladder given number budget all = grind (arith, common_steps, drop_all)

-- the first plan of the next contour
first-of : (plans : List PlanTree) → 1 ≤ length plans → plans ≡ slice_index_or plans 0 (Scan 0) ∷ drop 1 plans
first-of [] some = absurd (omega (arith, some))
first-of (p ∷ more) some = refl

pub next-contour : (old new : LadderState) (given number cap : ℕ) (budget : Option ℕ) → IsSchedule (schedule_at old given budget number) → given ≡ length old.hand.plans → IsLadder new
    → new.whole ≡ old.whole → old.ahead ≡ new.hand ∷ new.ahead → cap ≡ budget_of new.whole.threshold new.hand.cost
    → TakesNext (schedule_at old given budget number) (schedule_at new 1 (Some cap) (number + 1))
next-contour old new given number cap None is all climbed whole ahead cap_is = absurd (omega (arith, ap length ahead, ap length (is.ended refl).0))
next-contour old new given number cap (Some budget) is all climbed whole ahead cap_is =
    let HasPlan : ContourTree → Type 0 = λ contour. 1 ≤ length contour.plans in
    let some = All-head HasPlan new.hand new.ahead (subst (All HasPlan) ahead is.ladder.some) in
    let threshold = new.whole.threshold in
    let later = members_from threshold (number + 1 + 1) new.ahead in
    let plans = new.hand.plans in
    let cost = new.hand.cost in
    let first : Member = record { plan = slice_index_or plans 0 (Scan 0); budget = cap; contour = number + 1; place = 1; cost = cost } in
    let members : members_left (schedule_at old given (Some budget) number) ≡ first ∷ (members_on cap (number + 1) cost 2 (drop 1 plans) ++ later) =
    all-given old given number budget all
    ∙ ap (λ (w : BouquetTree). members_from w.threshold (number + 1) old.ahead) (sym whole)
    ∙ ap (members_from threshold (number + 1)) ahead
    ∙ ap (λ n. members_on n (number + 1) cost 1 plans ++ later) (sym cap_is)
    ∙ ap (λ left. members_on cap (number + 1) cost 1 left ++ later) (first-of plans some) in
    record {
      at = record {
        is = record { ladder = climbed; given = some; few = omega (arith, is.few, ap length ahead); ended = λ none. cc };
        some = omega arith;
      };
      step = sym (ap (λ left. first_attempt left (final_plan old.whole)) members);
      first = at-first (members_left (schedule_at old given (Some budget) number)) first _ (schedule_at new 1 (Some cap) (number + 1)) members refl refl;
      left = sym (ap members_behind members);
      whole = whole;
    }

no-members : (ladder : LadderState) (given number : ℕ) (budget : Option ℕ) → given ≡ length ladder.hand.plans → ladder.ahead ≡ []
    → members_left (schedule_at ladder given budget number) ≡ []
no-members ladder given number None all none = refl
no-members ladder given number (Some budget) all none =
    all-given ladder given number budget all ∙ ap (members_from ladder.whole.threshold (number + 1)) none

-- the last execution
pub next-last : (ladder : LadderState) (given number : ℕ) (budget : Option ℕ) → IsSchedule (schedule_at ladder given budget number) → given ≡ length ladder.hand.plans → ladder.ahead ≡ []
    → TakesNext (schedule_at ladder given budget number) (schedule_at ladder given None number)
next-last ladder given number budget is all none =
    grind (arith, common_steps, no-members, slice_index_or, last-placed, at-none)

-- the whole schedule, at the foot
members-at-foot : (bouquet : BouquetTree) (ladder : LadderState) → ladder ≡ foot_of bouquet → members_left (schedule_at ladder 0 (Some 0) 0) ≡ schedule bouquet
members-at-foot bouquet ladder foot = ap (λ (l : LadderState). members_left (schedule_at l 0 (Some 0) 0)) foot

pub foot-schedule : (ladder : LadderState) → StandsAtFoot ladder → IsWholeSchedule ladder.whole (schedule_at ladder 0 (Some 0) 0)
foot-schedule ladder at =
    let whole = ladder.whole in
    let members = members-at-foot whole ladder at.foot in
    let ahead : whole.contours ≡ ladder.ahead = sym (ap (λ (l : LadderState). l.ahead) at.foot) in
    let few = few-members whole.costing.block whole.threshold 1 ladder.ahead (All-tail (AreTried whole.costing.block) ladder.hand ladder.ahead at.ladder.tried) in
    let count : length (schedule whole) ≡ length (members_from whole.threshold 1 ladder.ahead) = ap (λ contours. length (members_from whole.threshold 1 contours)) ahead in
    record {
      is = record { ladder = at.ladder; given = omega arith; few = omega (arith, at.ladder.few); ended = λ none. cc };
      members = members;
      few = omega (arith, few, count, ap length members, at.ladder.few);
      whole = refl;
    }
