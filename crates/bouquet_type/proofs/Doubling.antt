-- Costs of contours that double.
use Rattle.std.proofs.Common.{◌≡◌, ◌∙◌, ℕ, ◌+◌, ◌-◌, ◌*◌, ◌^◌, ◌≤◌, List, [], ◌∷◌, length, map, ap, sym, arith}
use Rattle.std.proofs.lemmas.Grind.{common_steps}
use Rattle.std.specs.List.{range_with_len}
use Rattle.std.proofs.Math.Nat.{pow-suc}
use Rattle.ess_grid.specs.Points.{bottom_of}
use Rattle.cost_model.specs.Costing.{CostingTree}
use Rattle.cost_model.specs.Optimal.{optimal_cost}
use Rattle.bouquet_type.specs.Trees.{ContourTree}
use Rattle.bouquet_type.specs.Budgets.{contour_cost}
use Rattle.bouquet_type.specs.Sound.{first_cost, last_cost, AreDoubled}

pub next-cost : (costing : CostingTree) (number : ℕ) → 1 ≤ number → contour_cost costing (number + 1) ≡ 2 * contour_cost costing number
next-cost costing number some =
    let bottom = optimal_cost costing (bottom_of costing.grid) in
    let exponent : number + 1 - 1 ≡ number - 1 + 1 = omega (arith, some) in
    let power : 2 ^ (number - 1 + 1) ≡ 2 ^ (number - 1) * 2 = ap (λ n. 2 ^ n) (omega arith) ∙ pow-suc 2 (number - 1) in
    ap (λ n. bottom * 2 ^ n) exponent ∙ ap (λ n. bottom * n) power ∙ omega arith

-- these contours have the defined costs from this number on
abbrev pub AreNumbered : CostingTree → (number : ℕ) → List ContourTree → Type 0
AreNumbered costing number contours =
    map (λ contour. contour.cost) contours ≡ map (contour_cost costing) (range_with_len number (length contours))

numbered-first : (costing : CostingTree) (number : ℕ) (contour : ContourTree) (more : List ContourTree) → AreNumbered costing number (contour ∷ more)
    → contour.cost ≡ contour_cost costing number
numbered-first costing number contour more are = cc

numbered-rest : (costing : CostingTree) (number : ℕ) (contour : ContourTree) (more : List ContourTree) → AreNumbered costing number (contour ∷ more)
    → AreNumbered costing (number + 1) more
numbered-rest costing number contour more are = cc

pub first-numbered : (costing : CostingTree) (contours : List ContourTree) → AreNumbered costing 1 contours → first_cost contours ≤ optimal_cost costing (bottom_of costing.grid)
first-numbered costing [] are = omega arith
first-numbered costing (contour ∷ more) are = omega (arith, numbered-first costing 1 contour more are)

pub doubled-numbered : (costing : CostingTree) (number : ℕ) (contours : List ContourTree) → 1 ≤ number → AreNumbered costing number contours → AreDoubled contours
doubled-numbered costing number [] some are = tt
doubled-numbered costing number (contour ∷ []) some are = tt
doubled-numbered costing number (contour ∷ next ∷ more) some are =
    let rest = numbered-rest costing number contour (next ∷ more) are in
    let here = numbered-first costing number contour (next ∷ more) are in
    let after = numbered-first costing (number + 1) next more rest in (
      after ∙ next-cost costing number some ∙ ap (λ n. 2 * n) (sym here),
      doubled-numbered costing (number + 1) (next ∷ more) (omega arith) rest,
    )

pub last-numbered : (costing : CostingTree) (number : ℕ) (contours : List ContourTree) → 1 ≤ number → 1 ≤ length contours → AreNumbered costing number contours
    → last_cost contours ≡ contour_cost costing (number + length contours - 1)
last-numbered costing number [] some long are = absurd (omega (arith, long))
last-numbered costing number (contour ∷ []) some long are = grind (arith, common_steps, numbered-first)
last-numbered costing number (contour ∷ next ∷ more) some long are =
    let rest = numbered-rest costing number contour (next ∷ more) are in
    let place : number + 1 + length (next ∷ more) - 1 ≡ number + length (contour ∷ next ∷ more) - 1 = omega (arith, some) in
    last-numbered costing (number + 1) (next ∷ more) (omega arith) (omega arith) rest ∙ ap (contour_cost costing) place
