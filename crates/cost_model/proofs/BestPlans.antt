-- The first plan of a list in an order, and that the best plan at a point is a best one, and the only one.
use Rattle.std.proofs.Common.{◌≡◌, inl, inr, ℕ, ◌<◌, ◌≤◌, List, [], ◌∷◌, refl, sym, ap, ◌∙◌, subst, arith}
use Rattle.std.specs.Prelude.{count_by, true, false, if◌then◌else◌}
use Rattle.std.specs.Ordering.{nat_cmp, ordering_then, ordering_reverse, is_gt}
use Rattle.std.specs.Cmp.{IsTotalOrder}
use Rattle.std.specs.declared.cmp.Ordering.{Ordering}
use Rattle.std.specs.declared.cmp.Ordering.TheVariants.{Less, Equal, Greater}
use Rattle.std.proofs.lemmas.Bool.{true≢false, cases_Bool, cases_lt}
use Rattle.std.proofs.lemmas.Bool.Decides.{nat_tests}
use Rattle.std.proofs.lemmas.Cmp.{upto, tied_itself, nat_cmp_total, on_total, then_total, back_total}
use Rattle.plan_tree.specs.Plans.{PlanTree}
use Rattle.plan_tree.specs.Order.{plan_order_of}
use Rattle.plan_tree.specs.Enumerated.{IsPlan}
use Rattle.plan_tree.specs.AllPlans.{plans_of}
use Rattle.plan_tree.proofs.Members.{IsIn}
use Rattle.plan_tree.proofs.Enumerated.{in-plans, of-plans}
use Rattle.plan_tree.proofs.PlanOrder as plan-order
use Rattle.cost_model.specs.Costing.{CostingTree}
use Rattle.cost_model.specs.Costs.{cost_of}
use Rattle.cost_model.specs.Best.{IsCheapest, IsBest}
use Rattle.cost_model.specs.Optimal.{first_plan, best_plan}
use Rattle.cost_model.specs.Greedy.{covers_at, order_by_cover}

-- an order of plans by which one plan comes first of any: total, and only the same plan is equal
pub record IsPlanOrder (order : PlanTree → PlanTree → Ordering) : Type 0 where
  pub total : IsTotalOrder order
  pub same : (p other : PlanTree) → order p other ≡ Equal → p ≡ other

-- ---- the first plan of a list

behind-rest : (order : PlanTree → PlanTree → Ordering) (p other : PlanTree) (more : List PlanTree) → is_gt (order p (first_plan order (other ∷ more))) ≡ true
    → first_plan order (other ∷ more) ≡ first_plan order (p ∷ other ∷ more)
behind-rest order p other more behind = sym (ap (λ b. if b then first_plan order (other ∷ more) else p) behind)

before-rest : (order : PlanTree → PlanTree → Ordering) (p other : PlanTree) (more : List PlanTree) → is_gt (order p (first_plan order (other ∷ more))) ≡ false
    → p ≡ first_plan order (p ∷ other ∷ more)
before-rest order p other more before = sym (ap (λ b. if b then first_plan order (other ∷ more) else p) before)

there : (order : PlanTree → PlanTree → Ordering) (p : PlanTree) (plans : List PlanTree) → IsIn (first_plan order (p ∷ plans)) (p ∷ plans)
there order p [] = inl refl
there order p (other ∷ more) =
    elim (cases_Bool (is_gt (order p (first_plan order (other ∷ more))))) [
      | inl behind ↦ subst (λ one. IsIn one (p ∷ other ∷ more)) (behind-rest order p other more behind) (inr (there order other more))
      | inr before ↦ inl (before-rest order p other more before)
    ]

-- it is among them
pub first-there : (order : PlanTree → PlanTree → Ordering) (p : PlanTree) (plans : List PlanTree) → IsIn p plans → IsIn (first_plan order plans) plans
first-there order p [] is = absurd is
first-there order p (other ∷ more) is = there order other more

turned : (a b : Ordering) → a ≡ ordering_reverse b → is_gt b ≡ true → is_gt a ≡ false
turned a Less same behind = absurd (grind (arith, behind))
turned a Equal same behind = absurd (grind (arith, behind))
turned a Greater same behind = ap is_gt same

itself : (order : PlanTree → PlanTree → Ordering) → IsTotalOrder order → (p other : PlanTree) → p ≡ other → is_gt (order p other) ≡ false
itself order total p other same = ap (λ one. is_gt (order p one)) (sym same) ∙ ap is_gt (tied_itself total p)

-- and none of them is before it
pub first-least : (order : PlanTree → PlanTree → Ordering) → IsTotalOrder order → (p : PlanTree) (plans : List PlanTree) → IsIn p plans → is_gt (order (first_plan order plans) p) ≡ false
first-least order total p [] is = absurd is
first-least order total p (q ∷ []) (inl same) = itself order total q p same
first-least order total p (q ∷ []) (inr none) = absurd none
first-least order total p (q ∷ other ∷ more) (inl same) =
    let rest = first_plan order (other ∷ more) in
    elim (cases_Bool (is_gt (order q rest))) [
      | inl behind ↦
          subst (λ first. is_gt (order first p) ≡ false) (behind-rest order q other more behind)
          (subst (λ one. is_gt (order rest one) ≡ false) same (turned (order rest q) (order q rest) (total.antisymm rest q) behind))
      | inr before ↦ subst (λ first. is_gt (order first p) ≡ false) (before-rest order q other more before) (itself order total q p same)
    ]
first-least order total p (q ∷ other ∷ more) (inr is) =
    let rest = first_plan order (other ∷ more) in
    let least = first-least order total p (other ∷ more) is in
    elim (cases_Bool (is_gt (order q rest))) [
      | inl behind ↦ subst (λ first. is_gt (order first p) ≡ false) (behind-rest order q other more behind) least
      | inr before ↦ subst (λ first. is_gt (order first p) ≡ false) (before-rest order q other more before) (upto total q rest p before least)
    ]

tied : (a b : Ordering) → a ≡ ordering_reverse b → is_gt a ≡ false → is_gt b ≡ false → a ≡ Equal
tied a Less turn a-first b-first = absurd (true≢false (sym (ap is_gt turn) ∙ a-first))
tied a Equal turn a-first b-first = turn
tied a Greater turn a-first b-first = absurd (true≢false b-first)

-- no other one is so
pub first-only : (order : PlanTree → PlanTree → Ordering) → IsPlanOrder order → (p : PlanTree) (plans : List PlanTree) → IsIn p plans
    → ((other : PlanTree) → IsIn other plans → is_gt (order p other) ≡ false) → p ≡ first_plan order plans
first-only order ordered p plans is least =
    let first = first_plan order plans in
    ordered.same p first (
    tied (order p first) (order first p) (ordered.total.antisymm p first)
    (least first (first-there order p plans is))
    (first-least order ordered.total p plans is)
    )

-- lists with the same members have the same first plan
pub first-same : (order : PlanTree → PlanTree → Ordering) → IsPlanOrder order → (plans others : List PlanTree)
    → ((p : PlanTree) → IsIn p plans → IsIn p others) → ((p : PlanTree) → IsIn p others → IsIn p plans)
    → first_plan order plans ≡ first_plan order others
first-same order ordered [] [] into back = refl
first-same order ordered [] (q ∷ others) into back = absurd (back q (inl refl))
first-same order ordered (p ∷ plans) others into back =
    first-only order ordered (first_plan order (p ∷ plans)) others (into _ (there order p plans))
    (λ other is. first-least order ordered.total other (p ∷ plans) (back other is))

-- ---- the two orders

equal-then : (a b : Ordering) → ordering_then a b ≡ Equal → b ≡ Equal
equal-then Less b e = cc
equal-then Equal b e = e
equal-then Greater b e = cc

-- the order of plans by what they cost at a point, and of equally cheap ones by plan order
abbrev order_by_cost : CostingTree → (point : List ℕ) → PlanTree → PlanTree → Ordering
order_by_cost costing point p other =
    ordering_then (nat_cmp (cost_of costing p point) (cost_of costing other point)) (plan_order_of p other)

pub by-cost : (costing : CostingTree) (point : List ℕ) → IsPlanOrder (order_by_cost costing point)
by-cost costing point = record {
  total = then_total (on_total (λ p. cost_of costing p point) nat_cmp_total) plan-order.total;
  same = λ p other e. (plan-order.same p other).0 (equal-then _ _ e);
}

pub by-cover : (costing : CostingTree) (threshold : ℕ) (points : List (List ℕ)) → IsPlanOrder (order_by_cover costing threshold points)
by-cover costing threshold points = record {
  total = then_total (back_total (on_total (λ p. count_by (covers_at costing threshold p) points) nat_cmp_total)) plan-order.total;
  same = λ p other e. (plan-order.same p other).0 (equal-then _ _ e);
}

-- ---- the best plan

-- the numbers decide, and the orders where they are equal
pub at-most : (n m : ℕ) (o : Ordering) → is_gt (ordering_then (nat_cmp n m) o) ≡ false → n ≤ m
at-most n m o first =
    elim (cases_lt m n) [
      | inl less ↦
          let more : nat_cmp n m ≡ Greater = grind (arith, nat_tests, less) in
          absurd (true≢false (rw more at first))
      | inr other ↦ other
    ]

where-equal : (n m : ℕ) (o : Ordering) → n ≡ m → ordering_then (nat_cmp n m) o ≡ o
where-equal n m o same =
    let equal : nat_cmp n m ≡ Equal = grind (arith, nat_tests, same) in
    ap (λ one. ordering_then one o) equal

where-less : (n m : ℕ) (o : Ordering) → n < m → is_gt (ordering_then (nat_cmp n m) o) ≡ false
where-less n m o less =
    let first : nat_cmp n m ≡ Less = grind (arith, nat_tests, less) in
    ap (λ one. is_gt (ordering_then one o)) first

not-greater : (o : Ordering) → (o ≡ Greater → ⊥) → is_gt o ≡ false
not-greater Less not = refl
not-greater Equal not = refl
not-greater Greater not = absurd (not refl)

-- of a block that has a plan the best plan is a best one
pub best-there : (costing : CostingTree) (p : PlanTree) (point : List ℕ) → IsPlan costing.block p → IsBest costing point (best_plan costing point)
best-there costing p point plan =
    let plans = plans_of costing.block in
    let best = best_plan costing point in
    let order = order_by_cost costing point in
    let first : (other : PlanTree) → IsPlan costing.block other → is_gt (order best other) ≡ false =
    λ other there. first-least order (by-cost costing point).total other plans (in-plans costing.block other there) in
    let cheapest : IsCheapest costing point best = record {
      plan = of-plans costing.block best (first-there order p plans (in-plans costing.block p plan));
      least = λ other there. at-most _ _ _ (first other there);
    } in
    record {
      cheapest = cheapest;
      first = λ other cheap behind.
          let same : cost_of costing best point ≡ cost_of costing other point =
          omega (arith, cheapest.least other cheap.plan, cheap.least best cheapest.plan) in
          true≢false (sym (ap is_gt (where-equal _ _ _ same ∙ behind)) ∙ first other cheap.plan);
    }

-- and each best one is it
pub best-only : (costing : CostingTree) (p : PlanTree) (point : List ℕ) → IsBest costing point p → p ≡ best_plan costing point
best-only costing p point best =
    let plans = plans_of costing.block in
    first-only (order_by_cost costing point) (by-cost costing point) p plans (in-plans costing.block p best.cheapest.plan)
    (λ other is.
    let plan = of-plans costing.block other is in
    elim (cases_lt (cost_of costing p point) (cost_of costing other point)) [
      | inl less ↦ where-less _ _ _ less
      | inr least ↦
          let same : cost_of costing p point ≡ cost_of costing other point = omega (arith, least, best.cheapest.least other plan) in
          let cheap : IsCheapest costing point other = record {
            plan = plan;
            least = λ one there. omega (arith, same, best.cheapest.least one there);
          } in
          ap is_gt (where-equal _ _ (plan_order_of p other) same) ∙ not-greater _ (best.first other cheap)
    ])
