-- A compiled bouquet of at most 128 contours is `compiled`.
use Rattle.std.proofs.Common.{◌≡◌, ◌∙◌, ℕ, ◌+◌, ◌-◌, ◌<◌, ◌≤◌, nat_lt, zero, suc, Bool, true, false, cond, List, [], ◌∷◌, All, length, map, refl, ap, ap₂, sym, arith}
use Rattle.std.proofs.lemmas.Grind.{common_steps}
use Rattle.std.specs.List.{count_by, range_with_len}
use Rattle.std.proofs.lemmas.List.Sums.{sum_by-cons}
use Rattle.std.proofs.lemmas.List.Elements.{All-head, All-tail}
use Rattle.std.proofs.Math.Nat.{mul-le-mul_left}
use Rattle.std.proofs.Math.Pow.{pow_mono}
use Rattle.ess_grid.specs.Points.{top_of}
use Rattle.plan_tree.specs.Plans.{PlanTree}
use Rattle.cost_model.specs.Costing.{CostingTree}
use Rattle.cost_model.specs.Optimal.{optimal_cost}
use Rattle.cost_model.specs.Frontier.{frontier}
use Rattle.cost_model.specs.Greedy.{greedy}
use Rattle.bouquet_type.specs.Trees.{BouquetTree, ContourTree}
use Rattle.bouquet_type.specs.Budgets.{contour_cost}
use Rattle.bouquet_type.specs.Compiled.{IsCompiled, compiled, compiled_contour, contour_count}

-- where the first few of some numbers pass a test, and no later number does, it counts these few
counted : (test : ℕ → Bool) (from few count : ℕ) → few ≤ count → ((number : ℕ) → from ≤ number → number < from + few → test number ≡ true)
    → ((number : ℕ) → from + few ≤ number → test number ≡ false) → count_by test (range_with_len from count) ≡ few
counted test from few zero within passes stops = omega (arith, within)
counted test from zero (suc count) within passes stops =
    let later = counted test (from + 1) zero count (omega arith) (λ number least below. absurd (omega (arith, least, below))) (λ number least. stops number (omega (arith, least))) in
    sum_by-cons (λ number. cond (test number) 1 0) from (range_with_len (from + 1) count) ∙ ap₂ (λ here all. cond here 1 0 + all) (stops from (omega arith)) later
counted test from (suc few) (suc count) within passes stops =
    let later = counted test (from + 1) few count (omega (arith, within)) (λ number least below. passes number (omega (arith, least)) (omega (arith, below)))
    (λ number least. stops number (omega (arith, least))) in
    sum_by-cons (λ number. cond (test number) 1 0) from (range_with_len (from + 1) count) ∙ ap₂ (λ here all. cond here 1 0 + all) (passes from (omega arith) (omega arith)) later
    ∙ omega arith

-- contour costs never fall
cost-rises : (costing : CostingTree) (number later : ℕ) → number ≤ later → contour_cost costing number ≤ contour_cost costing later
cost-rises costing number later before = grind (arith, common_steps, pow_mono, mul-le-mul_left)

-- a compiled bouquet has as many contours as are needed
count-compiled : (bouquet : BouquetTree) → IsCompiled bouquet → length bouquet.contours ≤ 128 → contour_count bouquet.costing ≡ length bouquet.contours
unfolding contour_count
count-compiled bouquet is few =
    let costing = bouquet.costing in
    let count = length bouquet.contours in
    let top = optimal_cost costing (top_of costing.grid) in
    let test : ℕ → Bool = λ number. nat_lt (contour_cost costing number) top in
    let below = counted test 1 (count - 1) 128 (omega (arith, few)) (λ number least fewer. grind (arith, is.below number least (omega (arith, fewer))))
    (λ number least. grind (arith, is.last, cost-rises costing count number (omega (arith, least, is.some)))) in
    ap (λ n. 1 + n) below ∙ omega (arith, is.some)

-- contours whose plans their costs determine
by-costs : (plans_of : ℕ → List PlanTree) (contours : List ContourTree) → All (λ contour. contour.plans ≡ plans_of contour.cost) contours
    → contours ≡ map (λ cost. record { cost = cost; plans = plans_of cost }) (map (λ contour. contour.cost) contours)
by-costs plans_of [] all = refl
by-costs plans_of (contour ∷ more) all =
    let IsOf : ContourTree → Type 0 = λ other. other.plans ≡ plans_of other.cost in
    let here : contour.plans ≡ plans_of contour.cost = All-head IsOf contour more all in
    ap₂ (λ (one : ContourTree) (others : List ContourTree). one ∷ others) (ap (λ (plans : List PlanTree). record { cost = contour.cost; plans = plans }) here)
    (by-costs plans_of more (All-tail IsOf contour more all))

pub compiled-one : (bouquet : BouquetTree) → IsCompiled bouquet → length bouquet.contours ≤ 128 → bouquet ≡ compiled bouquet.costing bouquet.threshold
unfolding compiled
compiled-one bouquet is few =
    let costing = bouquet.costing in
    let threshold = bouquet.threshold in
    let contours = by-costs (λ cost. greedy costing threshold (frontier costing cost)) bouquet.contours is.plans
    ∙ ap (map (compiled_contour costing threshold)) (is.costs ∙ ap (λ n. map (contour_cost costing) (range_with_len 1 n)) (sym (count-compiled bouquet is few))) in
    ap (λ (all : List ContourTree). record { costing = costing; threshold = threshold; contours = all }) contours
