-- Where a run stands in the schedule of a bouquet.
use Rattle.std.specs.Prelude.{◌≡◌, ℕ, ◌+◌, ◌-◌, ◌^◌, ◌≤◌, ◌++◌, ⊤, List, [], ◌∷◌, drop, length, slice_index_or, Option, Some, None}
use Rattle.std.specs.Option.{option_map_or}
use Rattle.sql_values.specs.Limits.{max_contours}
use Rattle.plan_tree.specs.Plans.{PlanTree, Scan, plan_tree}
use Rattle.bouquet_type.specs.declared.schedule.Attempt.{Attempt}
use Rattle.bouquet_type.specs.declared.schedule.Schedule.{Schedule}
use Rattle.bouquet_type.specs.Trees.{BouquetTree}
use Rattle.bouquet_type.specs.Ladders.{LadderState, IsLadder}
use Rattle.bouquet_type.specs.Schedule.{Member, members_on, members_from, final_plan, schedule}

-- the contours; of that at hand how many plans were given, the budget, and the number, from 1. The number is 0 at the foot.
-- There is no budget where all executions under one were given
pub record ScheduleState : Type 0 where
  pub ladder : LadderState
  pub given : ℕ
  pub budget : Option ℕ
  pub number : ℕ

abbrev pub schedule_of : {L : Type 0} → (state : L → LadderState) → Schedule L → ScheduleState
schedule_of state s = record { ladder = state s.ladder; given = s.given; budget = s.budget; number = s.number }

-- an execution: its plan, the budget, and the number of its contour. The last one has no budget, and its contour is 0
pub record AttemptTree : Type 0 where
  pub plan : PlanTree
  pub budget : Option ℕ
  pub contour : ℕ

abbrev pub attempt_tree : Attempt → AttemptTree
attempt_tree attempt = record { plan = plan_tree attempt.plan.now; budget = attempt.budget; contour = attempt.contour }

-- the executions under budgets that are left, in order
abbrev pub members_left : ScheduleState → List Member
members_left s =
    option_map_or (λ budget.
    members_on budget s.number s.ladder.hand.cost (s.given + 1) (drop s.given s.ladder.hand.plans) ++ members_from s.ladder.whole.threshold (s.number + 1) s.ladder.ahead)
    s.budget []

-- the first of some executions under budgets, and the others; the final plan where there is none
abbrev pub first_attempt : List Member → (final : PlanTree) → AttemptTree
first_attempt [] final = record { plan = final; budget = None; contour = 0 }
first_attempt (member ∷ more) final = record { plan = member.plan; budget = Some member.budget; contour = member.contour }

abbrev pub members_behind : List Member → List Member
members_behind [] = []
members_behind (member ∷ more) = more

-- the execution at which a run stands: the plan that was given last, the final plan where no budget is left
abbrev pub attempt_at : ScheduleState → AttemptTree
attempt_at s = record {
  plan = slice_index_or s.ladder.hand.plans (s.given - 1) (Scan 0);
  budget = s.budget;
  contour = option_map_or (λ _. s.number) s.budget 0;
}

-- what always holds of a schedule: without a budget the last plan of the last contour was given
pub record IsSchedule (s : ScheduleState) : Type 0 where
  pub ladder : IsLadder s.ladder
  pub given : s.given ≤ length s.ladder.hand.plans
  pub few : s.number + length s.ladder.ahead ≤ max_contours
  pub ended : s.budget ≡ None → (s.ladder.ahead ≡ []) × (s.given ≡ length s.ladder.hand.plans)

-- and it stands at an execution
pub record IsAtAttempt (s : ScheduleState) : Type 0 where
  pub is : IsSchedule s
  pub some : 1 ≤ s.given

-- it stands at the first of some executions under budgets, where there is one: at its place, on a contour of its cost
abbrev pub StandsAtFirst : List Member → ScheduleState → Type 0
StandsAtFirst [] s = ⊤
StandsAtFirst (member ∷ more) s = (s.given ≡ member.place) × (s.ladder.hand.cost ≡ member.cost)

-- the schedule of the same bouquet stands at the next execution, and those behind it are left
pub record TakesNext (old new : ScheduleState) : Type 0 where
  pub at : IsAtAttempt new
  pub step : attempt_at new ≡ first_attempt (members_left old) (final_plan old.ladder.whole)
  pub first : StandsAtFirst (members_left old) new
  pub left : members_left new ≡ members_behind (members_left old)
  pub whole : new.ladder.whole ≡ old.ladder.whole

-- the schedule of a bouquet before its first execution
pub record IsWholeSchedule (bouquet : BouquetTree) (s : ScheduleState) : Type 0 where
  pub is : IsSchedule s
  pub members : members_left s ≡ schedule bouquet
  pub few : length (members_left s) ≤ 2 ^ 19
  pub whole : s.ladder.whole ≡ bouquet
