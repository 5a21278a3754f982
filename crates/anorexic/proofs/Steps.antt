-- The steps of the loops: candidates are gathered, the first of them is sought, and turns follow one another.
use Rattle.std.proofs.Common.{◌≡◌, ℕ, suc, ◌+◌, ◌-◌, ◌*◌, ◌<◌, ◌≤◌, List, [], ◌∷◌, ◌++◌, All, length, map, take, drop, refl, sym, ap, ◌∙◌, subst, arith, map-id}
use Rattle.std.specs.Prelude.{Bool, true, false, not, count_by, filter, slice_index_or, if◌then◌else◌}
use Rattle.std.specs.List.{range_with_len}
use Rattle.std.specs.Ordering.{is_gt, ordering_reverse}
use Rattle.std.specs.Cmp.{IsTotalOrder}
use Rattle.std.specs.declared.cmp.Ordering.{Ordering}
use Rattle.std.specs.declared.cmp.Ordering.TheVariants.{Less, Equal, Greater}
use borrow.Author.Count.{below_more}
use Rattle.std.proofs.lemmas.Bool.{true≢false}
use Rattle.std.proofs.lemmas.Cmp.{upto, tied_itself, nat_cmp_total, on_total, then_total, back_total}
use Rattle.std.proofs.Math.ListN.{drop_of_length-le}
use Rattle.std.proofs.Math.Seq.{take-append_seam}
use Rattle.std.proofs.lemmas.List.{get_or-map, get_or-drop, length-map, map-append, append_assoc, append-nil, take_all, drop_more}
use Rattle.std.proofs.lemmas.List.Elements.{filter_more}
use Rattle.std.proofs.lemmas.List.Sums.{sum_by-append, sum_by-cons}
use Rattle.std.proofs.lemmas.List.Filters.{FiltersInPlace}
use Rattle.std.proofs.lemmas.List.FromFn.{fill_by_all, get_or-range_with_len, length-range_with_len, map-range_with_len_more}
use Rattle.plan_tree.specs.declared.plan.Plan.{Plan}
use Rattle.plan_tree.specs.declared.plan.Plan.TheVariants as plan
use Rattle.plan_tree.specs.Plans.{PlanTree, Scan, plan_tree}
use Rattle.plan_tree.proofs.Members.{IsIn, in-contained, contained-in}
use Rattle.plan_tree.proofs.PlanOrder as plan-order
use Rattle.cost_model.specs.Costing.{CostingTree}
use Rattle.cost_model.specs.Greedy.{greedy_turns, greedy}
use Rattle.cost_model.specs.Optimal.{best_plan}
use Rattle.cost_model.proofs.BestPlans.{best-only}
use Rattle.cost_model.proofs.Covers.{greedy-same}
use Rattle.plan_space.specs.FrontierPlans.{HoldsBest, nth_point}
use Rattle.anorexic.specs.Turns.{AreCoverCounts, AreMore, IsCoverCounted, IsCoverTable, IsCoverRow, is_marked, cover_order, plan_at, turn_order}
use Rattle.anorexic.proofs.Turns.{one-turn}

-- ---- the first candidate

pub turn-total : (plans : List Plan) (table : List Bool) (uncovered : List ℕ) → IsTotalOrder (turn_order plans table uncovered)
turn-total plans table uncovered =
    then_total (back_total (on_total (λ number. count_by (is_marked table (length plans) number) uncovered) nat_cmp_total))
    (on_total (plan_at plans) plan-order.total)

pub first-itself : (plans : List Plan) (table : List Bool) (uncovered : List ℕ) (other : ℕ) → other < 1 → is_gt (turn_order plans table uncovered 0 other) ≡ false
first-itself plans table uncovered other less =
    let same : 0 ≡ other = omega (arith, less) in
    subst (λ one. is_gt (turn_order plans table uncovered 0 one) ≡ false) same (ap is_gt (tied_itself (turn-total plans table uncovered) 0))

-- the count of a candidate
pub counted-at : (plans : List Plan) (table : List Bool) (uncovered counts : List ℕ) → length counts ≡ length plans → AreCoverCounts table uncovered counts → (candidate : ℕ)
    → candidate < length plans → slice_index_or counts candidate 0 ≡ count_by (is_marked table (length plans) candidate) uncovered
counted-at plans table uncovered counts long are candidate few =
    are candidate (omega (arith, long, few)) ∙ ap (λ width. count_by (is_marked table width candidate) uncovered) long

-- it is what the code compares
pub turn-order-is : (plans : List Plan) (table : List Bool) (uncovered : List ℕ) (first candidate most count : ℕ) (p other : Plan)
    → first < length plans → candidate < length plans → p ≡ slice_index_or plans first p → other ≡ slice_index_or plans candidate other
    → most ≡ count_by (is_marked table (length plans) first) uncovered → count ≡ count_by (is_marked table (length plans) candidate) uncovered
    → cover_order most (plan_tree p) count (plan_tree other) ≡ turn_order plans table uncovered first candidate
turn-order-is plans table uncovered first candidate most count p other first-few few is-first is a b =
    let at-first = ap plan_tree is-first ∙ sym (get_or-map plan_tree plans first p (Scan 0) first-few) in
    let at = ap plan_tree is ∙ sym (get_or-map plan_tree plans candidate other (Scan 0) few) in
    λ i. cover_order (a i) (at-first i) (b i) (at i)

turned : (a b : Ordering) → a ≡ ordering_reverse b → is_gt b ≡ true → is_gt a ≡ false
turned a Less turn behind = absurd (true≢false (sym behind))
turned a Equal turn behind = absurd (true≢false (sym behind))
turned a Greater turn behind = ap is_gt turn

-- the next one is better
pub next-first : (plans : List Plan) (table : List Bool) (uncovered : List ℕ) (first candidate : ℕ)
    → is_gt (turn_order plans table uncovered first candidate) ≡ true
    → ((other : ℕ) → other < candidate → is_gt (turn_order plans table uncovered first other) ≡ false)
    → (other : ℕ) → other < candidate + 1 → is_gt (turn_order plans table uncovered candidate other) ≡ false
next-first plans table uncovered first candidate behind least =
    let order = turn_order plans table uncovered in
    let total = turn-total plans table uncovered in
    let before : is_gt (order candidate first) ≡ false = turned (order candidate first) (order first candidate) (total.antisymm candidate first) behind in
    below_more (λ other. is_gt (order candidate other) ≡ false) candidate
    (λ other less. upto total candidate first other before (least other less))
    (ap is_gt (tied_itself total candidate))

-- ---- places that are kept

pub still-there : (test : ℕ → Bool) (xs ys : List ℕ) (kept i d : ℕ) → FiltersInPlace test xs ys kept i → slice_index_or ys i d ≡ slice_index_or xs i d
still-there test xs ys kept i d is =
    let a = get_or-drop i ys 0 d in
    let b = get_or-drop i xs 0 d in
    let c = ap (λ zs. slice_index_or zs 0 d) is.rest in
    let e : i + 0 ≡ i = omega arith in
    ap (λ n. slice_index_or ys n d) (sym e) ∙ sym a ∙ c ∙ b ∙ ap (λ n. slice_index_or xs n d) e

-- so its row is within the table
pub row-there : (table : List Bool) (width : ℕ) (test : ℕ → Bool) (xs ys : List ℕ) (kept i place : ℕ) → All (λ one. one * width + width ≤ length table) xs
    → FiltersInPlace test xs ys kept i → i < length xs → place ≡ slice_index_or ys i place → place * width + width ≤ length table
row-there table width test xs ys kept i place rows is below at =
    subst (λ one. one * width + width ≤ length table) (sym (at ∙ still-there test xs ys kept i place is)) (rows i place below)

-- the places that are kept of the first so many, and the rest
abbrev pub kept_of : (test : ℕ → Bool) (xs : List ℕ) (i : ℕ) → List ℕ
kept_of test xs i = filter test (take i xs) ++ drop i xs

pub kept-all : (test : ℕ → Bool) (xs : List ℕ) (i : ℕ) → length xs ≤ i → kept_of test xs i ≡ filter test xs
kept-all test xs i whole = (λ k. filter test (take_all i xs whole k) ++ drop_of_length-le xs whole k) ∙ append-nil (filter test xs)

-- one that is kept changes nothing
pub kept-more : (test : ℕ → Bool) (xs : List ℕ) (i d : ℕ) → i < length xs → test (slice_index_or xs i d) ≡ true → kept_of test xs (i + 1) ≡ kept_of test xs i
kept-more test xs i d less is =
    let x = slice_index_or xs i d in
    let front = filter_more test xs i d less ∙ ap (λ b. filter test (take i xs) ++ (if b then x ∷ [] else [])) is in
    ap (λ all. all ++ drop (i + 1) xs) front
    ∙ append_assoc (filter test (take i xs)) (x ∷ []) (drop (i + 1) xs)
    ∙ ap (λ all. filter test (take i xs) ++ all) (sym (drop_more xs i d less))

-- one that isn't is no longer counted
pub kept-less : (test other : ℕ → Bool) (xs : List ℕ) (i d : ℕ) → i < length xs → test (slice_index_or xs i d) ≡ false
    → count_by other (kept_of test xs i) ≡ count_by other (kept_of test xs (i + 1)) + (if other (slice_index_or xs i d) then 1 else 0)
kept-less test other xs i d less is =
    let x = slice_index_or xs i d in
    let one = λ (place : ℕ). if other place then 1 else 0 in
    let front = filter_more test xs i d less ∙ ap (λ b. filter test (take i xs) ++ (if b then x ∷ [] else [])) is ∙ append-nil (filter test (take i xs)) in
    let before = sum_by-append one (filter test (take i xs)) (drop i xs) in
    let after = sum_by-append one (filter test (take (i + 1) xs)) (drop (i + 1) xs) in
    let same = ap (count_by other) front in
    let rest = ap (count_by other) (drop_more xs i d less) ∙ sum_by-cons one x (drop (i + 1) xs) in
    omega (arith, before, after, same, rest)

-- the next place, that isn't kept, is counted still
counted-still : (test : ℕ → Bool) (table row : List Bool) (xs counts : List ℕ) (i place : ℕ) → i < length xs → place ≡ slice_index_or xs i place → test place ≡ false
    → IsCoverRow table (length counts) place row → AreCoverCounts table (kept_of test xs i) counts → (candidate : ℕ) → candidate < length counts
    → slice_index_or counts candidate 0
    ≡ count_by (is_marked table (length counts) candidate) (kept_of test xs (i + 1)) + (if slice_index_or row candidate false then 1 else 0)
counted-still test table row xs counts i place less at is its are candidate few =
    let mark = is_marked table (length counts) candidate in
    are candidate few
    ∙ kept-less test mark xs i place less (ap test (sym at) ∙ is)
    ∙ ap (λ b. count_by mark (kept_of test xs (i + 1)) + (if b then 1 else 0)) (ap mark (sym at) ∙ sym (its.tests candidate few))

pub row-counted : (test : ℕ → Bool) (table row : List Bool) (xs counts : List ℕ) (i place : ℕ) → i < length xs → place ≡ slice_index_or xs i place → test place ≡ false
    → IsCoverRow table (length counts) place row → AreCoverCounts table (kept_of test xs i) counts → IsCoverCounted row counts
row-counted test table row xs counts i place less at is its are candidate few =
    omega (arith, counted-still test table row xs counts i place less at is its are candidate (omega (arith, few, its.long)))

-- and then no longer
pub row-subtracted : (test : ℕ → Bool) (table row : List Bool) (xs counts fewer : List ℕ) (i place : ℕ) → i < length xs → place ≡ slice_index_or xs i place → test place ≡ false
    → IsCoverRow table (length counts) place row → AreCoverCounts table (kept_of test xs i) counts → AreMore row fewer counts → length fewer ≡ length counts
    → AreCoverCounts table (kept_of test xs (i + 1)) fewer
row-subtracted test table row xs counts fewer i place less at is its are more long candidate few =
    let short : candidate < length counts = omega (arith, few, long) in
    let before = counted-still test table row xs counts i place less at is its are candidate short in
    let after = more candidate (omega (arith, short, its.long)) in
    let same : slice_index_or fewer candidate 0 ≡ count_by (is_marked table (length counts) candidate) (kept_of test xs (i + 1)) = omega (arith, before, after) in
    same ∙ ap (λ width. count_by (is_marked table width candidate) (kept_of test xs (i + 1))) (sym long)

-- what a vector holds whose items were lent
pub lent-back : (len : ℕ) (lent items : List ℕ) → len ≡ length lent → take len (lent ++ drop (length lent) items) ≡ lent
lent-back len lent items long = ap (λ n. take n (lent ++ drop (length lent) items)) long ∙ take-append_seam lent (drop (length lent) items)

-- ---- turns

-- all places are uncovered at first
pub all-points : (points : List (List ℕ)) → map (nth_point points) (range_with_len 0 (length points)) ≡ points
all-points points = sym (fill_by_all (nth_point points) points (length points) [] refl (λ k less. refl))

pub places-more : (count : ℕ) → range_with_len 0 (count + 1) ≡ range_with_len 0 count ++ count ∷ []
places-more count = simp map-id at (map-range_with_len_more (λ (i : ℕ). i) 0 count count (omega arith))

pub places-within : (count : ℕ) → All (λ place. place < count) (range_with_len 0 count)
places-within count k d less =
    let short : k < count = omega (arith, less, length-range_with_len 0 count) in
    omega (arith, short, get_or-range_with_len 0 count k d short)

-- what is taken, and what the turns that are left take
abbrev pub TakesRest : (count : ℕ) → List Plan → List Bool → (taken uncovered : List ℕ) → (turns : ℕ) → Type 0
TakesRest count plans table taken uncovered turns =
    (costing : CostingTree) (threshold : ℕ) (points : List (List ℕ)) → length points ≡ count → IsCoverTable costing threshold points (map plan_tree plans) table
    → map (plan_at plans) taken ++ greedy_turns costing threshold (map plan_tree plans) turns (map (nth_point points) uncovered)
    ≡ greedy_turns costing threshold (map plan_tree plans) count points

pub takes-more : (count : ℕ) (plans : List Plan) (table : List Bool) (taken uncovered : List ℕ) (candidate turn : ℕ)
    → turn < count → All (λ place. place < count) uncovered → 0 < length uncovered → candidate < length plans
    → ((other : ℕ) → other < length plans → is_gt (turn_order plans table uncovered candidate other) ≡ false)
    → TakesRest count plans table taken uncovered (count - turn)
    → TakesRest count plans table (taken ++ candidate ∷ []) (filter (λ place. not (is_marked table (length plans) candidate place)) uncovered) (count - (turn + 1))
takes-more count plans table taken uncovered candidate turn less within some few first takes costing threshold points long is =
    let trees = map plan_tree plans in
    let turns = count - (turn + 1) in
    let one : count - turn ≡ suc turns = omega (arith, less) in
    let left = filter (λ place. not (is_marked table (length plans) candidate place)) uncovered in
    let rest = greedy_turns costing threshold trees turns (map (nth_point points) left) in
    let now = one-turn costing threshold points plans table uncovered candidate turns is (subst (λ n. All (λ place. place < n) uncovered) (sym long) within) some few first in
    ap (λ xs. xs ++ rest) (map-append (plan_at plans) taken (candidate ∷ []))
    ∙ append_assoc (map (plan_at plans) taken) (plan_at plans candidate ∷ []) rest
    ∙ ap (λ xs. map (plan_at plans) taken ++ xs) (sym now)
    ∙ ap (λ n. map (plan_at plans) taken ++ greedy_turns costing threshold trees n (map (nth_point points) uncovered)) (sym one)
    ∙ takes costing threshold points long is

-- the candidates are the best plans at the points
pub all-turns : (costing : CostingTree) (threshold : ℕ) (points : List (List ℕ)) (count : ℕ) (plans : List Plan) → length points ≡ count → HoldsBest costing points count plans
    → greedy_turns costing threshold (map plan_tree plans) count points ≡ greedy costing threshold points
all-turns costing threshold points count plans long held =
    let trees = map plan_tree plans in
    let best = map (best_plan costing) points in
    let into : (p : PlanTree) → IsIn p trees → IsIn p best =
    λ p is.
    let (place, below, at) = contained-in p trees is in
    let few : place < length plans = omega (arith, below, length-map plans plan_tree) in
    let one = held.each place (plan.Scan 0) few in
    let same : plan_tree (slice_index_or plans place (plan.Scan 0)) ≡ p = sym (get_or-map plan_tree plans place (plan.Scan 0) p few) ∙ at in
    let only = best-only costing (plan_tree (slice_index_or plans place (plan.Scan 0))) (nth_point points one.number) one.best in
    in-contained p best (one.number, omega (arith, one.exists, length-map points (best_plan costing)), get_or-map (best_plan costing) points one.number [] p one.exists ∙ sym only ∙ same) in
    let back : (p : PlanTree) → IsIn p best → IsIn p trees =
    λ p is.
    let (place, below, at) = contained-in p best is in
    let few : place < length points = omega (arith, below, length-map points (best_plan costing)) in
    subst (λ one. IsIn one trees) (sym (get_or-map (best_plan costing) points place [] p few) ∙ at)
    (in-contained (best_plan costing (nth_point points place)) trees (held.all place (omega (arith, few, long)))) in
    greedy-same costing threshold trees best count points into back ∙ ap (λ n. greedy_turns costing threshold best n points) (sym long)
