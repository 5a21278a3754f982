-- The least levels of some points.
use Rattle.std.proofs.Common.{◌≡◌, ◌∙◌, inl, inr, ℕ, ◌<◌, ◌≤◌, List, [], ◌∷◌, length, map, refl, ap, sym, arith}
use Rattle.std.specs.Prelude.{Some, None, slice_index}
use Rattle.std.specs.List.{range_with_len}
use Rattle.std.proofs.lemmas.Bool.{cases_lt}
use Rattle.std.proofs.lemmas.Grind.{same_number_lists}
use Rattle.std.proofs.lemmas.List.FromFn.{get_or-map-range_with_len, length-map-range_with_len}
use Rattle.ess_grid.specs.Points.{GridShape, IsPoint}
use Rattle.ess_grid.specs.Order.{PointBelow}
use Rattle.ess_grid.proofs.PointOrder.{PointBelow-from_levels}
use Rattle.plan_tree.proofs.Members.{IsIn}
use Rattle.learned_run.specs.Learning.{least_level, least_levels}

-- no point has a lower level, and one has this one
level-least : (points : List (List ℕ)) (axis : ℕ) (point : List ℕ) → IsIn point points → least_level points axis ≤ slice_index point axis
level-least [] axis point is = absurd is
level-least (first ∷ []) axis point (inl same) = omega (arith, ap (λ (one : List ℕ). slice_index one axis) same)
level-least (first ∷ []) axis point (inr none) = absurd none
level-least (first ∷ next ∷ more) axis point (inl same) = omega (arith, ap (λ (one : List ℕ). slice_index one axis) same)
level-least (first ∷ next ∷ more) axis point (inr rest) = omega (arith, level-least (next ∷ more) axis point rest)

level-there : (first : List ℕ) (more : List (List ℕ)) (axis : ℕ) → (point : List ℕ) × IsIn point (first ∷ more) × (slice_index point axis ≡ least_level (first ∷ more) axis)
level-there first [] axis = (first, inl refl, refl)
level-there first (next ∷ more) axis =
    let rest = level-there next more axis in
    elim (cases_lt (slice_index first axis) (least_level (next ∷ more) axis)) [
      | inl less ↦ (first, inl refl, omega (arith, less))
      | inr other ↦ (rest.0, inr rest.1, omega (arith, other, rest.2))
    ]

-- these are the least levels of some points
pub record AreLeast (grid : GridShape) (points : List (List ℕ)) (least : List ℕ) : Type 0 where
  pub some : (point : List ℕ) × IsIn point points
  pub axes : length least ≡ grid.axes
  pub below : (point : List ℕ) → IsIn point points → (axis : ℕ) → axis < grid.axes → slice_index least axis ≤ slice_index point axis
  pub there : (axis : ℕ) → axis < grid.axes → (point : List ℕ) × IsIn point points × (slice_index point axis ≡ slice_index least axis)

level-at : (grid : GridShape) (points : List (List ℕ)) (axis : ℕ) → axis < grid.axes
    → slice_index (map (least_level points) (range_with_len 0 grid.axes)) axis ≡ least_level points axis
level-at grid points axis within =
    get_or-map-range_with_len (least_level points) 0 grid.axes axis axis 0 within (omega arith)

pub levels-are : (grid : GridShape) (points : List (List ℕ)) (least : List ℕ) → least_levels grid points ≡ Some least → AreLeast grid points least
levels-are grid [] least is = absurd cc
levels-are grid (first ∷ more) least is =
    let points = first ∷ more in
    let levels = map (least_level points) (range_with_len 0 grid.axes) in
    let same : levels ≡ least = cc in
    let at : (axis : ℕ) → axis < grid.axes → slice_index least axis ≡ least_level points axis =
    λ axis within. ap (λ (one : List ℕ). slice_index one axis) (sym same) ∙ level-at grid points axis within in
    record {
      some = (first, inl refl);
      axes = ap length (sym same) ∙ length-map-range_with_len (least_level points) 0 grid.axes;
      below = λ point is_in axis within. omega (arith, at axis within, level-least points axis point is_in);
      there = λ axis within. let found = level-there first more axis in (found.0, found.1, found.2 ∙ sym (at axis within));
    }

pub are-levels : (grid : GridShape) (points : List (List ℕ)) (least : List ℕ) → AreLeast grid points least → least_levels grid points ≡ Some least
are-levels grid [] least are = absurd (are.some.1)
are-levels grid (first ∷ more) least are =
    let points = first ∷ more in
    let levels = map (least_level points) (range_with_len 0 grid.axes) in
    let long = length-map-range_with_len (least_level points) 0 grid.axes in
    ap Some (
    same_number_lists levels least (long ∙ sym are.axes)
    (λ axis there.
    let within : axis < grid.axes = omega (arith, there, long) in
    let had = are.there axis within in
    let found = level-there first more axis in
    let above : least_level points axis ≤ slice_index least axis = omega (arith, level-least points axis had.0 had.1, had.2) in
    let most : slice_index least axis ≤ least_level points axis = omega (arith, are.below found.0 found.1 axis within, found.2) in
    let same : least_level points axis ≡ slice_index least axis = omega (arith, above, most) in
    level-at grid points axis within ∙ same)
    )

-- without points there are none
pub no-points : (points : List (List ℕ)) → ((point : List ℕ) → IsIn point points → ⊥) → points ≡ []
no-points [] none = refl
no-points (first ∷ more) none = absurd (none first (inl refl))

pub levels-none : (grid : GridShape) (points : List (List ℕ)) → least_levels grid points ≡ None → points ≡ []
levels-none grid [] is = refl
levels-none grid (first ∷ more) is = absurd cc

-- they lie at or below each of the points
pub levels-below : (grid : GridShape) (points : List (List ℕ)) (least point : List ℕ) → least_levels grid points ≡ Some least → IsIn point points → IsPoint grid point → PointBelow least point
levels-below grid points least point is is_in is_point =
    let are = levels-are grid points least is in
    PointBelow-from_levels least point (are.axes ∙ sym is_point.axes) (λ axis there. are.below point is_in axis (omega (arith, there, are.axes)))
