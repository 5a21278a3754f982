-- Greedy reduction covers all points, takes candidates alone, and doesn't depend on their order or repetition.
use Rattle.std.proofs.Common.{◌≡◌, inl, inr, ℕ, zero, suc, ◌+◌, ◌*◌, ◌<◌, ◌≤◌, List, [], ◌∷◌, refl, ap, subst, sym, ◌∙◌, arith, length}
use Rattle.std.specs.Prelude.{Contains, true, not, Bool, count_by, filter, map}
use Rattle.std.proofs.lemmas.Bool.{cases_Bool, le-leb}
use Rattle.std.proofs.lemmas.List.Sums.{length-filter}
use Rattle.std.proofs.lemmas.List.Filters.{length-filter_both}
use Rattle.plan_tree.specs.Plans.{PlanTree}
use Rattle.plan_tree.specs.Enumerated.{IsPlan}
use Rattle.plan_tree.proofs.Members.{IsIn, in-contained, contained-in, in-map, of-map, in-filter, of-filter}
use Rattle.cost_model.specs.Costing.{CostingTree}
use Rattle.cost_model.specs.Costs.{cost_of}
use Rattle.cost_model.specs.Optimal.{optimal_cost, first_plan, best_plan}
use Rattle.cost_model.specs.Greedy.{covers_at, CoversAt, order_by_cover, greedy_turns, greedy}
use Rattle.cost_model.proofs.Least.{optimal-cheapest}
use Rattle.cost_model.proofs.BestPlans.{best-there, first-there, first-least, first-same, by-cover, at-most}

-- the best plan of a point covers it
pub best-covers : (costing : CostingTree) (p : PlanTree) (threshold : ℕ) (point : List ℕ) → IsPlan costing.block p → covers_at costing threshold (best_plan costing point) point ≡ true
best-covers costing p threshold point plan =
    let cost = cost_of costing (best_plan costing point) point in
    let same : cost ≡ optimal_cost costing point = optimal-cheapest costing (best_plan costing point) point (best-there costing p point plan).cheapest in
    let more : 100 * cost ≤ (100 + threshold) * cost = grind arith in
    le-leb _ _ (subst (λ least. 100 * cost ≤ (100 + threshold) * least) same more)

-- ---- a turn

some-in : {X : Type 0} (x : X) (xs : List X) → IsIn x xs → 1 ≤ length xs
some-in x [] is = absurd is
some-in x (y ∷ ys) is = omega arith

counted : {X : Type 0} (test : X → Bool) (x : X) (xs : List X) → IsIn x xs → test x ≡ true → 1 ≤ count_by test xs
counted test x xs is passes = omega (arith, length-filter test xs, some-in x (filter test xs) (in-filter test x xs is passes))

-- the plan that a turn takes
abbrev pub turn_plan : CostingTree → (threshold : ℕ) → (candidates : List PlanTree) → (points : List (List ℕ)) → PlanTree
turn_plan costing threshold candidates points = first_plan (order_by_cover costing threshold points) candidates

-- the points that a plan leaves uncovered
abbrev pub left_by : CostingTree → (threshold : ℕ) → PlanTree → (points : List (List ℕ)) → List (List ℕ)
left_by costing threshold p points = filter (λ point. not (covers_at costing threshold p point)) points

-- where some candidate covers a point of those left, the turn leaves fewer
pub fewer-left : (costing : CostingTree) (threshold : ℕ) (candidates : List PlanTree) (points : List (List ℕ)) (p : PlanTree) (point : List ℕ)
    → IsIn p candidates → IsIn point points → covers_at costing threshold p point ≡ true
    → length (left_by costing threshold (turn_plan costing threshold candidates points) points) < length points
fewer-left costing threshold candidates points p point is is_point covers =
    let taken = turn_plan costing threshold candidates points in
    let most : count_by (covers_at costing threshold p) points ≤ count_by (covers_at costing threshold taken) points =
    at-most _ _ _ (first-least (order_by_cover costing threshold points) (by-cover costing threshold points).total p candidates is) in
    omega (
      arith,
      most,
      counted (covers_at costing threshold p) point points is_point covers,
      length-filter (covers_at costing threshold taken) points,
      length-filter_both (covers_at costing threshold taken) (λ other. not (covers_at costing threshold taken other)) (λ other. refl) points,
    )

-- ---- all turns

-- a plan among these that covers a point
abbrev pub HasCover : CostingTree → (threshold : ℕ) → List PlanTree → (point : List ℕ) → Type 0
HasCover costing threshold plans point = (p : PlanTree) × IsIn p plans × (covers_at costing threshold p point ≡ true)

pub turns-cover : (costing : CostingTree) (threshold : ℕ) (candidates : List PlanTree) (turns : ℕ) (points : List (List ℕ))
    → ((point : List ℕ) → IsIn point points → HasCover costing threshold candidates point) → length points ≤ turns
    → (point : List ℕ) → IsIn point points → HasCover costing threshold (greedy_turns costing threshold candidates turns points) point
unfolding greedy_turns
turns-cover costing threshold candidates turns [] each enough point is = absurd is
turns-cover costing threshold candidates zero (first ∷ more) each enough point is = absurd (omega (arith, enough))
turns-cover costing threshold candidates (suc turns) (first ∷ more) each enough point is =
    let points = first ∷ more in
    let taken = turn_plan costing threshold candidates points in
    let uncovered : List ℕ → Bool = λ other. not (covers_at costing threshold taken other) in
    let cover = each first (inl refl) in
    let fewer = fewer-left costing threshold candidates points cover.0 first cover.1 (inl refl) cover.2 in
    elim (cases_Bool (covers_at costing threshold taken point)) [
      | inl covered ↦ (taken, inl refl, covered)
      | inr left ↦
          let found =
          turns-cover costing threshold candidates turns (filter uncovered points)
          (λ other is_left. each other (of-filter uncovered other points is_left).0) (omega (arith, fewer, enough))
          point (in-filter uncovered point points is (ap not left)) in
          (found.0, inr found.1, found.2)
    ]

pub turns-take : (costing : CostingTree) (threshold : ℕ) (candidates : List PlanTree) (turns : ℕ) (points : List (List ℕ)) (p taken : PlanTree)
    → IsIn p candidates → IsIn taken (greedy_turns costing threshold candidates turns points) → IsIn taken candidates
unfolding greedy_turns
turns-take costing threshold candidates zero points p taken some is = absurd is
turns-take costing threshold candidates (suc turns) [] p taken some is = absurd is
turns-take costing threshold candidates (suc turns) (first ∷ more) p taken some (inl same) =
    subst (λ one. IsIn one candidates) same (first-there (order_by_cover costing threshold (first ∷ more)) p candidates some)
turns-take costing threshold candidates (suc turns) (first ∷ more) p taken some (inr is) =
    turns-take costing threshold candidates turns _ p taken some is

pub turns-few : (costing : CostingTree) (threshold : ℕ) (candidates : List PlanTree) (turns : ℕ) (points : List (List ℕ)) → length (greedy_turns costing threshold candidates turns points) ≤ turns
unfolding greedy_turns
turns-few costing threshold candidates zero points = omega arith
turns-few costing threshold candidates (suc turns) [] = omega arith
turns-few costing threshold candidates (suc turns) (first ∷ more) =
    let points = first ∷ more in
    omega (arith, turns-few costing threshold candidates turns (left_by costing threshold (turn_plan costing threshold candidates points) points))

-- candidates with the same members are taken in the same turns
pub greedy-same : (costing : CostingTree) (threshold : ℕ) (candidates others : List PlanTree) (turns : ℕ) (points : List (List ℕ))
    → ((p : PlanTree) → IsIn p candidates → IsIn p others) → ((p : PlanTree) → IsIn p others → IsIn p candidates)
    → greedy_turns costing threshold candidates turns points ≡ greedy_turns costing threshold others turns points
unfolding greedy_turns
greedy-same costing threshold candidates others zero points into back = refl
greedy-same costing threshold candidates others (suc turns) [] into back = refl
greedy-same costing threshold candidates others (suc turns) (first ∷ more) into back =
    let points = first ∷ more in
    let same = first-same (order_by_cover costing threshold points) (by-cover costing threshold points) candidates others into back in
    ap (λ p. p ∷ greedy_turns costing threshold candidates turns (left_by costing threshold p points)) same
    ∙ ap (λ plans. turn_plan costing threshold others points ∷ plans)
    (greedy-same costing threshold candidates others turns (left_by costing threshold (turn_plan costing threshold others points) points) into back)

-- ---- greedy reduction

pub greedy-covers : (costing : CostingTree) (p : PlanTree) (threshold : ℕ) (points : List (List ℕ)) (point : List ℕ)
    → IsPlan costing.block p → Contains points point
    → (taken : PlanTree) × Contains (greedy costing threshold points) taken × CoversAt costing threshold taken point
greedy-covers costing p threshold points point plan is =
    let candidates = map (best_plan costing) points in
    let found =
    turns-cover costing threshold candidates (length points) points
    (λ other there. (best_plan costing other, in-map (best_plan costing) other points there, best-covers costing p threshold other plan))
    (omega arith) point (in-contained point points is) in
    (found.0, contained-in found.0 (greedy costing threshold points) found.1, found.2)

none-taken : (costing : CostingTree) (threshold : ℕ) (taken : PlanTree) → IsIn taken (greedy costing threshold []) → ⊥
unfolding greedy_turns
none-taken costing threshold taken is = is

taken-best : (costing : CostingTree) (threshold : ℕ) (points : List (List ℕ)) (taken : PlanTree) → IsIn taken (greedy costing threshold points) → IsIn taken (map (best_plan costing) points)
taken-best costing threshold [] taken is = absurd (none-taken costing threshold taken is)
taken-best costing threshold (first ∷ more) taken is =
    let points = first ∷ more in
    turns-take costing threshold (map (best_plan costing) points) (length points) points (best_plan costing first) taken (inl refl) is

pub greedy-best : (costing : CostingTree) (threshold : ℕ) (points : List (List ℕ)) (taken : PlanTree) → Contains (greedy costing threshold points) taken
    → (point : List ℕ) × Contains points point × (taken ≡ best_plan costing point)
greedy-best costing threshold points taken is =
    let is_best = taken-best costing threshold points taken (in-contained taken (greedy costing threshold points) is) in
    let found = of-map (best_plan costing) taken points is_best in
    (found.0, contained-in found.0 points found.1, sym found.2)

pub greedy-few : (costing : CostingTree) (threshold : ℕ) (points : List (List ℕ)) → length (greedy costing threshold points) ≤ length points
greedy-few costing threshold points = turns-few costing threshold (map (best_plan costing) points) (length points) points
