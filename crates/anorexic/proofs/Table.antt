-- What the table says is who covers what.
use Rattle.std.proofs.Common.{◌≡◌, ℕ, ◌+◌, ◌*◌, ◌<◌, ◌≤◌, List, [], ◌∷◌, All, length, map, take, refl, sym, ap, ◌∙◌, arith}
use Rattle.std.specs.Prelude.{Bool, true, false, not, count_by, filter, slice_index_or, if◌then◌else◌}
use Rattle.std.specs.List.{flat_map}
use Rattle.std.proofs.Math.ListN.{length-append}
use Rattle.std.proofs.lemmas.List.{get_or-map, length-map, length-take-le}
use Rattle.std.proofs.lemmas.List.Concat.{get_or-flat_map}
use Rattle.std.proofs.lemmas.List.Elements.{All-head, All-tail}
use Rattle.std.proofs.lemmas.List.Sums.{sum_by-cons}
use Rattle.plan_tree.specs.Plans.{PlanTree, Scan}
use Rattle.cost_model.specs.Costing.{CostingTree}
use Rattle.cost_model.specs.Greedy.{covers_at}
use Rattle.plan_space.specs.Parts.{nth_plan}
use Rattle.plan_space.specs.FrontierPlans.{nth_point}
use Rattle.anorexic.specs.Turns.{cover_row, IsCoverTable, is_marked}

-- rows that are equally long
rows-long : {X A : Type 0} (f : X → List A) (width : ℕ) (xs : List X) → ((x : X) → length (f x) ≡ width) → length (flat_map f xs) ≡ length xs * width
rows-long f width [] long = omega arith
rows-long f width (x ∷ xs) long =
    let more = rows-long f width xs long in
    let both = length-append (f x) (flat_map f xs) in
    grind (arith, more, both, long x)

pub table-long : (costing : CostingTree) (threshold : ℕ) (points : List (List ℕ)) (plans : List PlanTree) (table : List Bool)
    → IsCoverTable costing threshold points plans table → length table ≡ length points * length plans
table-long costing threshold points plans table is =
    ap length is ∙ rows-long (cover_row costing threshold plans) (length plans) points (λ point. length-map plans (λ p. covers_at costing threshold p point))

-- a row lies within the table
pub row-within : (place points width : ℕ) → place < points → place * width + width ≤ points * width
row-within place points width less = grind (arith, less)

-- the test of a candidate and the point at a place
pub marked-is : (costing : CostingTree) (threshold : ℕ) (points : List (List ℕ)) (plans : List PlanTree) (table : List Bool) (candidate place : ℕ)
    → IsCoverTable costing threshold points plans table → candidate < length plans → place < length points
    → is_marked table (length plans) candidate place ≡ covers_at costing threshold (nth_plan plans candidate) (nth_point points place)
marked-is costing threshold points plans table candidate place is few within =
    let row = cover_row costing threshold plans in
    let wide : (point : List ℕ) → length (row point) ≡ length plans = λ point. length-map plans (λ p. covers_at costing threshold p point) in
    let before : length (flat_map row (take place points)) ≡ place * length plans =
    rows-long row (length plans) (take place points) wide ∙ ap (λ n. n * length plans) (length-take-le place points (omega (arith, within))) in
    let point = nth_point points place in
    let there = get_or-flat_map row points place candidate [] false within (omega (arith, wide point, few)) in
    let of-plan = get_or-map (λ p. covers_at costing threshold p point) plans candidate (Scan 0) false few in
    ap (λ all. slice_index_or all (place * length plans + candidate) false) is
    ∙ ap (λ n. slice_index_or (flat_map row points) (n + candidate) false) (sym before)
    ∙ there
    ∙ of-plan

-- a test of places counts and keeps as the test of what stands there does
abbrev one-if : Bool → ℕ
one-if test = if test then 1 else 0

pub count-is : {X : Type 0} (test : ℕ → Bool) (other : X → Bool) (at : ℕ → X) (places : List ℕ) → All (λ place. test place ≡ other (at place)) places
    → count_by test places ≡ count_by other (map at places)
count-is test other at [] same = refl
count-is test other at (place ∷ places) same =
    let first = All-head (λ one. test one ≡ other (at one)) place places same in
    let rest = count-is test other at places (All-tail (λ one. test one ≡ other (at one)) place places same) in
    sum_by-cons (λ one. one-if (test one)) place places ∙ (λ i. one-if (first i) + rest i) ∙ sym (sum_by-cons (λ x. one-if (other x)) (at place) (map at places))

if-map : {X : Type 0} (at : ℕ → X) (test : Bool) (xs ys : List ℕ) → map at (if test then xs else ys) ≡ (if test then map at xs else map at ys)
if-map at true xs ys = refl
if-map at false xs ys = refl

pub filter-is : {X : Type 0} (test : ℕ → Bool) (other : X → Bool) (at : ℕ → X) (places : List ℕ) → All (λ place. test place ≡ other (at place)) places
    → map at (filter (λ place. not (test place)) places) ≡ filter (λ x. not (other x)) (map at places)
filter-is test other at [] same = refl
filter-is {X} test other at (place ∷ places) same =
    let first = All-head (λ one. test one ≡ other (at one)) place places same in
    let rest = filter-is test other at places (All-tail (λ one. test one ≡ other (at one)) place places same) in
    if-map at (not (test place)) (place ∷ filter (λ one. not (test one)) places) (filter (λ one. not (test one)) places)
    ∙ (λ i. if not (first i) then at place ∷ rest i else rest i)
