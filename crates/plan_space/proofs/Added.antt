-- Plans by their numbers, while parts are added.
use Rattle.std.proofs.Common.{◌≡◌, ℕ, ◌<◌, ◌≤◌, List, [], ◌∷◌, ◌++◌, All, length, map, refl, ap, ◌∙◌, arith}
use Rattle.std.proofs.lemmas.List.{map-append}
use Rattle.std.proofs.lemmas.List.Elements.{All-head, All-push, All-tail, All-weaker}
use Rattle.plan_tree.specs.Plans.{PlanTree}
use Rattle.plan_space.specs.Parts.{PartsShape, nth_plan, IsNthPlan, KeepsParts}
use Rattle.plan_space.specs.CostedPlans.{AreNumbersOf}

-- the plans that were there stay
pub plans-kept : (before after : PartsShape) (end : ℕ) (numbers : List ℕ) → KeepsParts before after → end ≤ length before.plans → All (λ number. number < end) numbers
    → map (nth_plan after.plans) numbers ≡ map (nth_plan before.plans) numbers
plans-kept before after end [] keeps few within = refl
plans-kept before after end (number ∷ more) keeps few within =
    let below : number < end = All-head (λ one. one < end) number more within in
    let first = keeps.kept number (omega (arith, below, few)) in
    let rest = plans-kept before after end more keeps few (All-tail (λ one. one < end) number more within) in
    λ i. first i ∷ rest i

-- with one more behind them
pub plan-added : (before after : PartsShape) (end : ℕ) (numbers : List ℕ) (number : ℕ) (p : PlanTree) → KeepsParts before after → end ≤ length before.plans
    → All (λ one. one < end) numbers → IsNthPlan after.plans p number → map (nth_plan after.plans) (numbers ++ number ∷ []) ≡ map (nth_plan before.plans) numbers ++ p ∷ []
plan-added before after end numbers number p keeps few within there =
    map-append (nth_plan after.plans) numbers (number ∷ [])
    ∙ (λ i. plans-kept before after end numbers keeps few within i ++ there.is i ∷ [])

-- so one plan more has its number
pub numbered-more : (before after : PartsShape) (plans : List PlanTree) (numbers : List ℕ) (number : ℕ) (p : PlanTree) → KeepsParts before after → IsNthPlan after.plans p number
    → AreNumbersOf before plans numbers → AreNumbersOf after (plans ++ p ∷ []) (numbers ++ number ∷ [])
numbered-more before after plans numbers number p keeps there are = record {
  within = All-push (λ one. one < length after.plans) numbers number
      (All-weaker (λ one. one < length before.plans) (λ one. one < length after.plans) (λ one less. omega (arith, less, keeps.more)) numbers are.within) there.exists;
  those = plan-added before after (length before.plans) numbers number p keeps (omega arith) are.within there ∙ ap (λ all. all ++ p ∷ []) are.those;
}
