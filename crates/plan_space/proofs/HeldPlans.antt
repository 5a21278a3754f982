-- The plans that are best at some points, as they are found.
use Rattle.std.proofs.Common.{◌≡◌, ◌∙◌, ℕ, ◌+◌, ◌<◌, List, [], ◌∷◌, ◌++◌, Contains, length, map, get_or, ap, sym, subst, arith}
use borrow.Author.Count.{below_more}
use Rattle.std.proofs.lemmas.List.{get_or-map, length-map, map_push}
use Rattle.std.proofs.lemmas.List.Elements.{All-push, Contains-push, Contains-append_left}
use Rattle.plan_tree.specs.declared.plan.Plan.{Plan}
use Rattle.plan_tree.specs.Plans.{PlanTree, plan_tree}
use Rattle.cost_model.specs.Costing.{CostingTree}
use Rattle.cost_model.specs.Best.{IsBest}
use Rattle.cost_model.proofs.BestPlans.{best-only}
use Rattle.plan_space.specs.FrontierPlans.{HasBest, HoldsBest, IsBestAmong, nth_point}

-- the plan at a place is the best one
pub has-best : (costing : CostingTree) (plans : List Plan) (place : ℕ) (p : Plan) (point : List ℕ) → place < length plans → p ≡ get_or plans place p
    → IsBest costing point (plan_tree p) → HasBest costing plans point
has-best costing plans place p point below is best =
    subst (Contains (map plan_tree plans)) (best-only costing (plan_tree p) point best)
    (place, omega (arith, below, length-map plans plan_tree), get_or-map plan_tree plans place p (plan_tree p) below ∙ ap plan_tree (sym is))

-- the next point has its plan already
pub holds-known : (costing : CostingTree) (points : List (List ℕ)) (number : ℕ) (plans : List Plan) → HasBest costing plans (nth_point points number) → HoldsBest costing points number plans
    → HoldsBest costing points (number + 1) plans
holds-known costing points number plans here known = record {
  each = known.each;
  all = below_more (λ other. HasBest costing plans (nth_point points other)) number known.all here;
}

-- its plan is added
pub holds-more : (costing : CostingTree) (points : List (List ℕ)) (number : ℕ) (plans : List Plan) (p : Plan) → number < length points → IsBest costing (nth_point points number) (plan_tree p)
    → HoldsBest costing points number plans → HoldsBest costing points (number + 1) (plans ++ p ∷ [])
holds-more costing points number plans p below best known =
    let trees = map plan_tree plans in
    let more : map plan_tree (plans ++ p ∷ []) ≡ trees ++ plan_tree p ∷ [] = map_push plan_tree plans p in
    let among : (one : PlanTree) → Contains (trees ++ plan_tree p ∷ []) one → Contains (map plan_tree (plans ++ p ∷ [])) one = λ one is. subst (λ all. Contains all one) (sym more) is in
    record {
      each = All-push (λ (one : Plan). IsBestAmong costing points (plan_tree one)) plans p known.each (record { number = number; exists = below; best = best });
      all = below_more (λ other. HasBest costing (plans ++ p ∷ []) (nth_point points other)) number
          (λ other less. among _ (Contains-append_left trees (plan_tree p ∷ []) _ (known.all other less)))
          (subst (Contains (map plan_tree (plans ++ p ∷ []))) (best-only costing (plan_tree p) (nth_point points number) best) (among _ (Contains-push trees (plan_tree p))));
    }
