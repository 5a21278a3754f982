-- The optimal cost is that of a plan, and the least.
use Rattle.std.proofs.Common.{◌≡◌, inl, inr, ℕ, ◌≤◌, min, List, [], ◌∷◌, map, refl, sym, subst, arith}
use Rattle.std.proofs.lemmas.Bool.{cases_lt}
use Rattle.plan_tree.specs.Plans.{PlanTree}
use Rattle.plan_tree.specs.Enumerated.{IsPlan}
use Rattle.cost_model.specs.Costing.{CostingTree}
use Rattle.cost_model.specs.Costs.{cost_of}
use Rattle.cost_model.specs.Best.{IsCheapest}
use Rattle.plan_tree.specs.AllPlans.{plans_of}
use Rattle.cost_model.specs.Optimal.{least_of, optimal_cost}
use Rattle.plan_tree.proofs.Members.{IsIn, in-map, of-map}
use Rattle.plan_tree.proofs.Enumerated.{in-plans, of-plans}

least-at-most : (n : ℕ) (ns : List ℕ) → IsIn n ns → least_of ns ≤ n
least-at-most n [] is = absurd is
least-at-most n (m ∷ []) (inl same) = omega (arith, same)
least-at-most n (m ∷ []) (inr none) = absurd none
least-at-most n (m ∷ k ∷ more) (inl same) = omega (arith, same)
least-at-most n (m ∷ k ∷ more) (inr rest) = omega (arith, least-at-most n (k ∷ more) rest)

least-there : (m : ℕ) (ns : List ℕ) → IsIn (least_of (m ∷ ns)) (m ∷ ns)
least-there m [] = inl refl
least-there m (k ∷ more) =
    elim (cases_lt m (least_of (k ∷ more))) [
      | inl less ↦ inl (omega (arith, less))
      | inr other ↦
          let same : min m (least_of (k ∷ more)) ≡ least_of (k ∷ more) = omega (arith, other) in
          inr (subst (λ n. IsIn n (k ∷ more)) (sym same) (least-there k more))
    ]

least-among : (n : ℕ) (ns : List ℕ) → IsIn n ns → IsIn (least_of ns) ns
least-among n [] is = absurd is
least-among n (m ∷ more) is = least-there m more

pub optimal-least : (costing : CostingTree) (p : PlanTree) (point : List ℕ) → IsPlan costing.block p → optimal_cost costing point ≤ cost_of costing p point
optimal-least costing p point plan =
    let cost : PlanTree → ℕ = λ one. cost_of costing one point in
    least-at-most (cost p) (map cost (plans_of costing.block)) (in-map cost p (plans_of costing.block) (in-plans costing.block p plan))

pub optimal-cheapest : (costing : CostingTree) (p : PlanTree) (point : List ℕ) → IsCheapest costing point p → cost_of costing p point ≡ optimal_cost costing point
optimal-cheapest costing p point cheapest =
    let cost : PlanTree → ℕ = λ one. cost_of costing one point in
    let plans = plans_of costing.block in
    let among = least-among (cost p) (map cost plans) (in-map cost p plans (in-plans costing.block p cheapest.plan)) in
    let found = of-map cost (optimal_cost costing point) plans among in
    omega (
      arith,
      optimal-least costing p point cheapest.plan,
      cheapest.least found.0 (of-plans costing.block found.0 found.1),
      found.2,
    )
