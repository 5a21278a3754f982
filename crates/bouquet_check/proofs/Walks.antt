-- From contour to contour, and from point to point of a frontier.
use Rattle.std.proofs.Common.{◌≡◌, ◌∙◌, inl, inr, ℕ, zero, suc, ◌+◌, ◌-◌, ◌≤◌, cond, List, [], ◌∷◌, length, map, drop, get_or, refl, ap, arith}
use Rattle.std.proofs.lemmas.Grind.{common_steps}
use Rattle.std.specs.Prelude.{Bool, not, ◌&&◌, Option, Some, None, find, filter, slice_index_or}
use Rattle.std.proofs.lemmas.Bool.{cases_Bool}
use Rattle.std.proofs.lemmas.Option.{get_or_from_slice_get, slice_get_within}
use Rattle.std.proofs.lemmas.List.{length-map, length-drop, drop_more, drop_all}
use Rattle.ess_grid.specs.Points.{points_of, point_at}
use Rattle.plan_tree.specs.Plans.{PlanTree}
use Rattle.cost_model.specs.Costing.{CostingTree}
use Rattle.cost_model.specs.Frontier.{is_on_frontier, frontier}
use Rattle.bouquet_type.specs.declared.contour.Contour.{Contour}
use Rattle.bouquet_type.specs.Trees.{ContourTree, contour_tree}
use Rattle.bouquet_type.specs.Sound.{first_cost, last_cost}
use Rattle.bouquet_check.specs.Verdicts.{VerdictTree, fits_at, cover_verdict, uncovered_point, wrong_step}

-- the first wrong step of the contours from the one before a place on
abbrev pub steps_from : (place : ℕ) → List Contour → Option ℕ
steps_from place contours = wrong_step place (map contour_tree (drop (place - 1) contours))

one-step : (number : ℕ) (contours : List ContourTree) → length contours ≤ 1 → wrong_step number contours ≡ None
one-step number [] few = refl
one-step number (contour ∷ []) few = refl
one-step number (contour ∷ next ∷ more) few = absurd (omega (arith, few))

pub steps-end : (place : ℕ) (contours : List Contour) → length contours ≤ place → steps_from place contours ≡ None
steps-end place contours past = grind (arith, common_steps, one-step, length-map, length-drop)

-- the verdict on the covers of the contours from a place on
abbrev pub covers_from : CostingTree → (threshold place : ℕ) → List Contour → VerdictTree
covers_from costing threshold place contours = cover_verdict costing threshold (place + 1) (map contour_tree (drop place contours))

-- the costs of the first contour and of the last
pub first_cost-read : (contours : List Contour) (contour : Contour) → 1 ≤ length contours → contour ≡ slice_index_or contours 0 contour
    → contour.cost ≡ first_cost (map contour_tree contours)
first_cost-read [] contour some is = absurd (omega (arith, some))
first_cost-read (first ∷ more) contour some is = ap (λ (one : Contour). one.cost) is

pub last_cost-read : (contours : List Contour) (contour : Contour) (place : ℕ) → place + 1 ≡ length contours → contour ≡ slice_index_or contours place contour
    → contour.cost ≡ last_cost (map contour_tree contours)
last_cost-read [] contour place last is = absurd (omega (arith, last))
last_cost-read (first ∷ []) contour zero last is = ap (λ (one : Contour). one.cost) is
last_cost-read (first ∷ []) contour (suc place) last is = absurd (omega (arith, last))
last_cost-read (first ∷ next ∷ more) contour zero last is = absurd (omega (arith, last))
last_cost-read (first ∷ next ∷ more) contour (suc place) last is = last_cost-read (next ∷ more) contour place (omega (arith, last)) is

-- of the points of the grid from a place on the first on the frontier at which no plan is within the budget
abbrev pub points_from : CostingTree → (cost budget : ℕ) → List PlanTree → (place : ℕ) → Option (List ℕ)
points_from costing cost budget plans place =
    find (λ point. not (fits_at costing budget plans point)) (filter (is_on_frontier costing cost) (drop place (points_of costing.grid)))

pub points-first : (costing : CostingTree) (cost budget : ℕ) (plans : List PlanTree) → points_from costing cost budget plans 0 ≡ uncovered_point costing cost budget plans
unfolding frontier
points-first costing cost budget plans = refl

first-item : (on bad : List ℕ → Bool) (point : List ℕ) (rest : List (List ℕ))
    → find bad (filter on (point ∷ rest)) ≡ cond (on point && bad point) (Some point) (find bad (filter on rest))
first-item on bad point rest = elim (cases_Bool (on point)) [ inl is ↦ rw is refl | inr off ↦ rw off refl ]

pub points-next : (costing : CostingTree) (cost budget : ℕ) (plans : List PlanTree) (place : ℕ) (point : List ℕ) → point_at costing.grid place ≡ Some point
    → points_from costing cost budget plans place
    ≡ cond (is_on_frontier costing cost point && not (fits_at costing budget plans point)) (Some point) (points_from costing cost budget plans (place + 1))
points-next costing cost budget plans place point is =
    let points = points_of costing.grid in
    let bad : List ℕ → Bool = λ other. not (fits_at costing budget plans other) in
    let here : get_or points place [] ≡ point = get_or_from_slice_get points place point [] is in
    ap (λ (left : List (List ℕ)). find bad (filter (is_on_frontier costing cost) left))
    (drop_more points place [] (slice_get_within points place point is) ∙ ap (λ (one : List ℕ). one ∷ drop (place + 1) points) here)
    ∙ first-item (is_on_frontier costing cost) bad point (drop (place + 1) points)

pub points-end : (costing : CostingTree) (cost budget : ℕ) (plans : List PlanTree) (place : ℕ) → length (points_of costing.grid) ≤ place
    → points_from costing cost budget plans place ≡ None
points-end costing cost budget plans place past = grind (arith, common_steps, drop_all)
