-- How many contours the compiled bouquet has: as many as it takes to reach the optimal cost at the top. And what they cost.
use Rattle.std.proofs.Common.{◌≡◌, ◌∙◌, inl, inr, ℕ, zero, suc, ◌+◌, ◌-◌, ◌*◌, ◌^◌, ◌<◌, ◌≤◌, length, map, refl, ap, sym, subst, arith}
use Rattle.std.specs.List.{range_with_len}
use Rattle.std.proofs.lemmas.Bool.{cases_lt}
use Rattle.std.proofs.lemmas.List.{length-map, map-id}
use Rattle.std.proofs.lemmas.List.Elements.{All-map}
use Rattle.std.proofs.lemmas.List.FromFn.{length-map-range_with_len}
use Rattle.std.proofs.lemmas.Simd.{map-map}
use Rattle.std.proofs.lemmas.Nat.{pow_pos}
use Rattle.std.proofs.Math.Nat.{mul-le-mul_left, mul-le-mul_right}
use Rattle.ess_grid.specs.Points.{bottom_of, top_of}
use Rattle.cost_model.specs.Costing.{CostingTree, IsCosting}
use Rattle.cost_model.specs.Optimal.{optimal_cost}
use Rattle.cost_model.specs.Frontier.{frontier}
use Rattle.cost_model.specs.Greedy.{greedy}
use Rattle.bouquet_type.specs.Trees.{BouquetTree, ContourTree}
use Rattle.bouquet_type.specs.Budgets.{contour_cost}
use Rattle.bouquet_type.specs.Compiled.{IsCompiled, compiled, compiled_contour, contour_count}
use Rattle.bouquet_type.proofs.OneCompiled.{compiled-one}
use Rattle.bouquet_type.proofs.Doubling.{next-cost}
use Rattle.contours.proofs.Extremes.{optimal-some, optimal-below}

-- the contour of this number is the first that costs at least so much
pub record IsLastNumber (costing : CostingTree) (top count : ℕ) : Type 0 where
  pub some : 1 ≤ count
  pub below : (number : ℕ) → 1 ≤ number → number < count → contour_cost costing number < top
  pub last : top ≤ contour_cost costing count

abbrev pub top_cost : CostingTree → ℕ
top_cost costing = optimal_cost costing (top_of costing.grid)

-- costs of at least 1 that double reach 2^127 with the 128th contour
reached : (costing : CostingTree) → IsCosting costing → 2 ^ 127 ≤ contour_cost costing 128
reached costing is =
    let power : 1 * 2 ^ 127 ≤ optimal_cost costing (bottom_of costing.grid) * 2 ^ 127 = mul-le-mul_right (2 ^ 127) (optimal-some costing (bottom_of costing.grid) is) in
    omega (arith, power)

find-last : (costing : CostingTree) (top number more : ℕ) → 1 ≤ number → ((before : ℕ) → 1 ≤ before → before < number → contour_cost costing before < top)
    → top ≤ contour_cost costing (number + more) → (count : ℕ) × IsLastNumber costing top count × (count ≤ number + more)
find-last costing top number zero some below last =
    let here : number + 0 ≡ number = omega arith in
    (number, record { some = some; below = below; last = subst (λ n. top ≤ contour_cost costing n) here last }, omega arith)
find-last costing top number (suc more) some below last =
    elim (cases_lt (contour_cost costing number) top) [
      | inl less ↦
          let place : number + suc more ≡ number + 1 + more = omega arith in
          let below' : (before : ℕ) → 1 ≤ before → before < number + 1 → contour_cost costing before < top = λ before least fewer.
          elim (cases_lt before number) [
            | inl earlier ↦ below before least earlier
            | inr here ↦
                let same : before ≡ number = omega (arith, fewer, here) in
                subst (λ n. contour_cost costing n < top) (sym same) less
          ] in
          let found = find-last costing top (number + 1) more (omega arith) below' (subst (λ n. top ≤ contour_cost costing n) place last) in
          (found.0, found.1, omega (arith, found.2))
      | inr here ↦ (number, record { some = some; below = below; last = here }, omega arith)
    ]

-- the bouquet of so many contours
abbrev bouquet_with : CostingTree → (threshold count : ℕ) → BouquetTree
bouquet_with costing threshold count = record {
  costing = costing;
  threshold = threshold;
  contours = map (compiled_contour costing threshold) (map (contour_cost costing) (range_with_len 1 count));
}

long-with : (costing : CostingTree) (threshold count : ℕ) → length (bouquet_with costing threshold count).contours ≡ count
long-with costing threshold count =
    let each : ℕ → ℕ = contour_cost costing in
    length-map (map each (range_with_len 1 count)) (compiled_contour costing threshold) ∙ length-map-range_with_len each 1 count

compiled-with : (costing : CostingTree) (threshold count : ℕ) → IsLastNumber costing (top_cost costing) count → IsCompiled (bouquet_with costing threshold count)
compiled-with costing threshold count is =
    let each : ℕ → ℕ = contour_cost costing in
    let costs = map each (range_with_len 1 count) in
    let long = long-with costing threshold count in
    let IsTaken : ContourTree → Type 0 = λ tree. tree.plans ≡ greedy costing threshold (frontier costing tree.cost) in
    record {
      some = omega (arith, long, is.some);
      costs = map-map (λ (tree : ContourTree). tree.cost) (compiled_contour costing threshold) costs ∙ map-id costs ∙ ap (λ n. map each (range_with_len 1 n)) (sym long);
      below = λ number least fewer. is.below number least (omega (arith, fewer, long));
      last = subst (λ n. top_cost costing ≤ each n) (sym long) is.last;
      plans = All-map IsTaken (compiled_contour costing threshold) costs (λ k d there. refl);
    }

pub long-compiled : (costing : CostingTree) (threshold : ℕ) → length (compiled costing threshold).contours ≡ contour_count costing
unfolding compiled
long-compiled costing threshold = long-with costing threshold (contour_count costing)

found-last : (costing : CostingTree) → IsCosting costing → (count : ℕ) × IsLastNumber costing (top_cost costing) count × (count ≤ 128)
found-last costing is =
    find-last costing (top_cost costing) 1 127 (omega arith) (λ before least fewer. absurd (omega (arith, least, fewer)))
    (omega (arith, reached costing is, optimal-below costing (top_of costing.grid) is))

-- so many contours are counted
pub count-last : (costing : CostingTree) → IsCosting costing → IsLastNumber costing (top_cost costing) (contour_count costing) × (contour_count costing ≤ 128)
count-last costing is =
    let found = found-last costing is in
    let long = long-with costing 0 found.0 in
    let one = compiled-one (bouquet_with costing 0 found.0) (compiled-with costing 0 found.0 found.1) (omega (arith, long, found.2)) in
    let same : found.0 ≡ contour_count costing = sym long ∙ ap (λ (bouquet : BouquetTree). length bouquet.contours) one ∙ long-compiled costing 0 in
    (subst (IsLastNumber costing (top_cost costing)) same found.1, omega (arith, same, found.2))

pub compiled-is : (costing : CostingTree) (threshold : ℕ) → IsCosting costing → IsCompiled (compiled costing threshold)
unfolding compiled
compiled-is costing threshold is = compiled-with costing threshold (contour_count costing) (count-last costing is).0

-- counting goes on below the optimal cost at the top, and ends there
pub count-more : (costing : CostingTree) (number : ℕ) → IsCosting costing → number ≤ contour_count costing → contour_cost costing number < top_cost costing → number < contour_count costing
count-more costing number is within less =
    elim (cases_lt number (contour_count costing)) [
      | inl more ↦ more
      | inr all ↦
          let same : number ≡ contour_count costing = omega (arith, within, all) in
          let cost : contour_cost costing number ≡ contour_cost costing (contour_count costing) = ap (contour_cost costing) same in
          absurd (omega (arith, less, cost, (count-last costing is).0.last))
    ]

pub count-done : (costing : CostingTree) (number : ℕ) → IsCosting costing → 1 ≤ number → number ≤ contour_count costing → top_cost costing ≤ contour_cost costing number
    → number ≡ contour_count costing
count-done costing number is some within reaches =
    elim (cases_lt number (contour_count costing)) [
      | inl more ↦ absurd (omega (arith, reaches, (count-last costing is).0.below number some more))
      | inr all ↦ omega (arith, within, all)
    ]

-- what each contour costs
pub cost-some : (costing : CostingTree) (number : ℕ) → optimal_cost costing (bottom_of costing.grid) ≤ contour_cost costing number
cost-some costing number =
    let bottom = optimal_cost costing (bottom_of costing.grid) in
    let power : bottom * 1 ≤ bottom * 2 ^ (number - 1) = mul-le-mul_left bottom (pow_pos (number - 1)) in
    omega (arith, power)

pub cost-few : (costing : CostingTree) (number : ℕ) → IsCosting costing → 1 ≤ number → number ≤ contour_count costing → contour_cost costing number ≤ 2 ^ 114
cost-few costing number is some within =
    elim (cases_lt 1 number) [
      | inl more ↦
          let place : number - 1 + 1 ≡ number = omega (arith, more) in
          let twice : contour_cost costing number ≡ 2 * contour_cost costing (number - 1) = ap (contour_cost costing) (sym place) ∙ next-cost costing (number - 1) (omega (arith, more)) in
          let before = (count-last costing is).0.below (number - 1) (omega (arith, more)) (omega (arith, within, more)) in
          omega (arith, twice, before, optimal-below costing (top_of costing.grid) is)
      | inr first ↦
          let one : number ≡ 1 = omega (arith, some, first) in
          let cost : contour_cost costing number ≡ contour_cost costing 1 = ap (contour_cost costing) one in
          omega (arith, cost, optimal-below costing (bottom_of costing.grid) is)
    ]
