-- A turn is that of the definition.
use Rattle.std.proofs.Common.{◌≡◌, ℕ, zero, suc, ◌<◌, List, [], ◌∷◌, All, length, map, refl, sym, ap, ◌∙◌, subst, arith}
use Rattle.std.specs.Prelude.{Bool, false, not, count_by, filter}
use Rattle.std.specs.Ordering.{nat_cmp, ordering_then, is_gt}
use Rattle.std.proofs.lemmas.List.{get_or_default, length-map}
use Rattle.std.proofs.lemmas.List.Elements.{All-weaker, Contains-get_or}
use Rattle.plan_tree.specs.declared.plan.Plan.{Plan}
use Rattle.plan_tree.specs.Plans.{PlanTree, Scan, plan_tree}
use Rattle.plan_tree.specs.Order.{plan_order_of}
use Rattle.plan_tree.proofs.Members.{IsIn, in-contained, contained-in}
use Rattle.cost_model.specs.Costing.{CostingTree}
use Rattle.cost_model.specs.Optimal.{first_plan}
use Rattle.cost_model.specs.Greedy.{covers_at, order_by_cover, greedy_turns}
use Rattle.cost_model.proofs.BestPlans.{first-only, by-cover}
use Rattle.plan_space.specs.FrontierPlans.{nth_point}
use Rattle.anorexic.specs.Turns.{IsCoverTable, is_marked, plan_at, turn_order}
use Rattle.anorexic.proofs.Table.{marked-is, count-is, filter-is}

-- no point is left, or no turn
pub none-left : (costing : CostingTree) (threshold : ℕ) (candidates : List PlanTree) (turns : ℕ) → greedy_turns costing threshold candidates turns [] ≡ []
unfolding greedy_turns
none-left costing threshold candidates zero = refl
none-left costing threshold candidates (suc turns) = refl

pub no-turns : (costing : CostingTree) (threshold : ℕ) (candidates : List PlanTree) (points : List (List ℕ)) → greedy_turns costing threshold candidates 0 points ≡ []
unfolding greedy_turns
no-turns costing threshold candidates points = refl

-- the candidate that a turn takes, and what it leaves
turn-takes : (costing : CostingTree) (threshold : ℕ) (candidates : List PlanTree) (turns : ℕ) (points : List (List ℕ)) (p : PlanTree) → 0 < length points
    → p ≡ first_plan (order_by_cover costing threshold points) candidates
    → greedy_turns costing threshold candidates (suc turns) points
    ≡ p ∷ greedy_turns costing threshold candidates turns (filter (λ one. not (covers_at costing threshold p one)) points)
unfolding greedy_turns
turn-takes costing threshold candidates turns [] p some first = absurd (omega (arith, some))
turn-takes costing threshold candidates turns (point ∷ points) p some first =
    λ i. sym first i ∷ greedy_turns costing threshold candidates turns (filter (λ one. not (covers_at costing threshold (sym first i) one)) (point ∷ points))

pub one-turn : (costing : CostingTree) (threshold : ℕ) (points : List (List ℕ)) (plans : List Plan) (table : List Bool) (uncovered : List ℕ) (candidate turns : ℕ)
    → IsCoverTable costing threshold points (map plan_tree plans) table
    → All (λ place. place < length points) uncovered → 0 < length uncovered → candidate < length plans
    → ((other : ℕ) → other < length plans → is_gt (turn_order plans table uncovered candidate other) ≡ false)
    → greedy_turns costing threshold (map plan_tree plans) (suc turns) (map (nth_point points) uncovered)
    ≡ plan_at plans candidate
    ∷ greedy_turns costing threshold (map plan_tree plans) turns
    (map (nth_point points) (filter (λ place. not (is_marked table (length plans) candidate place)) uncovered))
one-turn costing threshold points plans table uncovered candidate turns is within some few first =
    let trees = map plan_tree plans in
    let long : length trees ≡ length plans = length-map plans plan_tree in
    let left_open = map (nth_point points) uncovered in
    let plan = plan_at plans in
    let marked : (number : ℕ) → number < length plans
    → All (λ place. is_marked table (length plans) number place ≡ covers_at costing threshold (plan number) (nth_point points place)) uncovered =
    λ number less.
    All-weaker (λ place. place < length points)
    (λ place. is_marked table (length plans) number place ≡ covers_at costing threshold (plan number) (nth_point points place))
    (λ place below. ap (λ width. is_marked table width number place) (sym long) ∙ marked-is costing threshold points trees table number place is (omega (arith, long, less)) below) uncovered within in
    let count : (number : ℕ) → number < length plans
    → count_by (is_marked table (length plans) number) uncovered ≡ count_by (covers_at costing threshold (plan number)) left_open =
    λ number less.
    count-is (is_marked table (length plans) number) (covers_at costing threshold (plan number)) (nth_point points) uncovered (marked number less) in
    let there : (number : ℕ) → number < length plans → IsIn (plan number) trees =
    λ number less. in-contained (plan number) trees (Contains-get_or trees number (Scan 0) (omega (arith, long, less))) in
    let least : (other : PlanTree) → IsIn other trees → is_gt (order_by_cover costing threshold left_open (plan candidate) other) ≡ false =
    λ other among.
    let (number, below, at) = contained-in other trees among in
    let less : number < length plans = omega (arith, below, long) in
    let same : plan number ≡ other = get_or_default trees number (Scan 0) other below ∙ at in
    subst (λ one. is_gt (order_by_cover costing threshold left_open (plan candidate) one) ≡ false) same
    (ap (λ n. is_gt (ordering_then (nat_cmp n (count_by (covers_at costing threshold (plan candidate)) left_open)) (plan_order_of (plan candidate) (plan number)))) (sym (count number less))
    ∙ ap (λ n. is_gt (ordering_then (nat_cmp (count_by (is_marked table (length plans) number) uncovered) n) (plan_order_of (plan candidate) (plan number)))) (sym (count candidate few))
    ∙ first number less) in
    let chosen = first-only (order_by_cover costing threshold left_open) (by-cover costing threshold left_open) (plan candidate) trees (there candidate few) least in
    let left = filter-is (is_marked table (length plans) candidate) (covers_at costing threshold (plan candidate)) (nth_point points) uncovered (marked candidate few) in
    turn-takes costing threshold trees turns left_open (plan candidate) (omega (arith, some, length-map uncovered (nth_point points))) chosen
    ∙ ap (λ rest. plan candidate ∷ greedy_turns costing threshold trees turns rest) (sym left)
