-- The points next above a point, found by its place.
use Rattle.std.proofs.Common.{◌≡◌, ◌∙◌, ℕ, zero, suc, ◌+◌, ◌-◌, ◌*◌, ◌/◌, ◌%◌, ◌^◌, ◌<◌, ◌≤◌, List, [], ◌∷◌, length, get_or, drop, map, refl, ap, sym, add-one, arith}
use Rattle.std.specs.Prelude.{Bool, true, false, Some, nat_lt, slice_get, slice_index, ◌||◌}
use Rattle.std.specs.List.{filter, list_any, range_with_len}
use Rattle.std.proofs.lemmas.Bool.Decides.{nat_tests}
use Rattle.std.proofs.lemmas.Nat.{div-mul-add, mod-mul-add}
use Rattle.std.proofs.lemmas.Option.{slice_get-get_or}
use Rattle.std.proofs.Math.Nat.{pow-zero, pow-suc, pow-le-pow_right}
use Rattle.sql_values.specs.Limits.{max_points}
use Rattle.ess_grid.specs.Points.{GridShape, IsGrid, IsPoint, points_of}
use Rattle.ess_grid.specs.Order.{next_point, successors}
use Rattle.ess_grid.proofs.PointsAmong.{place_at, place_at-drop}
use Rattle.ess_grid.proofs.GridPoints.{All-points_of, IsPoint-next_point, place_once, slice_get-place_at}

-- the next point on an axis stands levels to the power of the axis further on
pub place_at-next_point : (levels : ℕ) (point : List ℕ) (axis : ℕ) → axis < length point → place_at levels (next_point point axis) ≡ place_at levels point + levels ^ axis
place_at-next_point levels [] axis there = absurd (omega (arith, there))
place_at-next_point levels (level ∷ rest) zero there = omega (arith, pow-zero levels)
place_at-next_point levels (level ∷ rest) (suc axis) there =
    let before = place_at-next_point levels rest axis (omega (arith, there)) in
    let place = place_at levels rest in
    let more : (place + levels ^ axis) * levels + level ≡ place * levels + level + levels ^ axis * levels = grind arith in
    ap (λ n. n * levels + level) before ∙ more ∙ ap (λ n. place * levels + level + n) (sym (pow-suc levels axis))

-- at an axis of the point at a place: what is left of the place, and how much further on the next point stands
pub record IsAtAxis (grid : GridShape) (place levels axis left stride : ℕ) : Type 0 where
  pub of : IsGrid grid
  pub there : place < length (points_of grid)
  pub count : levels ≡ grid.levels
  pub rest : left ≡ place_at grid.levels (drop axis (get_or (points_of grid) place []))
  pub power : stride ≡ grid.levels ^ axis

pub stands : (grid : GridShape) (place : ℕ) → IsGrid grid → place < length (points_of grid) → place ≡ place_at grid.levels (get_or (points_of grid) place [])
stands grid place is_grid there = place_once grid (get_or (points_of grid) place []) place is_grid (slice_get-get_or (points_of grid) place [] there)

pub first-axis : (grid : GridShape) (place levels : ℕ) → IsGrid grid → place < length (points_of grid) → levels ≡ grid.levels → IsAtAxis grid place levels 0 place 1
first-axis grid place levels is_grid there same = record { of = is_grid; there = there; count = same; rest = stands grid place is_grid there; power = sym (pow-zero grid.levels) }

-- whether some point that is next on one of these axes passes a test
abbrev any_on : (test : List ℕ → Bool) (grid : GridShape) (point axes : List ℕ) → Bool
any_on test grid point axes = list_any test (map (next_point point) (filter (λ axis. nat_lt (slice_index point axis + 1) grid.levels) axes))

-- on the axes from one on
abbrev pub any_from : (test : List ℕ → Bool) (grid : GridShape) (point : List ℕ) (axis : ℕ) → Bool
any_from test grid point axis = any_on test grid point (range_with_len axis (grid.axes - axis))

pub from-first : (test : List ℕ → Bool) (grid : GridShape) (point : List ℕ) → list_any test (successors grid point) ≡ any_from test grid point 0
from-first test grid point = let all : grid.axes ≡ grid.axes - 0 = omega arith in ap (λ n. any_on test grid point (range_with_len 0 n)) all

pub from-none : (test : List ℕ → Bool) (grid : GridShape) (point : List ℕ) (axis : ℕ) → grid.axes ≤ axis → any_from test grid point axis ≡ false
from-none test grid point axis all = let none : grid.axes - axis ≡ 0 = omega (arith, all) in rw none refl

module _ {grid : GridShape} {place levels axis left stride : ℕ} (at : IsAtAxis grid place levels axis left stride) (below : axis < grid.axes) where
  abbrev point : List ℕ
  point = get_or (points_of grid) place []

  abbrev after : ℕ
  after = place_at grid.levels (drop (axis + 1) point)

  pub is_point : IsPoint grid point
  is_point = All-points_of grid at.of place [] at.there

  pub before : axis < length point
  before = omega (arith, below, is_point.axes)

  now : left ≡ after * grid.levels + get_or point axis 0
  now = at.rest ∙ place_at-drop grid.levels point axis before

  pub level-there : left % levels ≡ get_or point axis 0
  level-there = ap (λ n. left % n) at.count ∙ ap (λ n. n % grid.levels) now ∙ mod-mul-add after grid.levels (get_or point axis 0) (is_point.levels axis 0 before)

  pub next-axis : IsAtAxis grid place levels (axis + 1) (left / levels) (stride * levels)
  next-axis = record {
    of = at.of;
    there = at.there;
    count = at.count;
    rest = ap (λ n. left / n) at.count ∙ ap (λ n. n / grid.levels) now ∙ div-mul-add after grid.levels (get_or point axis 0) (is_point.levels axis 0 before);
    power = ap (λ n. stride * n) at.count ∙ ap (λ n. n * grid.levels) at.power ∙ sym (ap (λ n. grid.levels ^ n) (add-one axis) ∙ pow-suc grid.levels axis);
  }

  pub stride-fits : stride * levels ≤ max_points
  stride-fits =
      let powers : grid.levels ^ (axis + 1) ≤ grid.levels ^ grid.axes = pow-le-pow_right (omega (arith, at.of.some_levels)) (omega (arith, below)) in
      omega (arith, at.of.few_points, next-axis.power, powers)

  -- the level isn't the highest
  lower : left % levels + 1 < levels → get_or point axis 0 + 1 < grid.levels
  lower isn't_highest = omega (arith, isn't_highest, level-there, at.count)

  pub next_point-there : left % levels + 1 < levels → slice_get (points_of grid) (place + stride) ≡ Some (next_point point axis)
  next_point-there isn't_highest =
      let further : place + stride ≡ place_at grid.levels (next_point point axis) =
      omega (arith, stands grid place at.of at.there, at.power, place_at-next_point grid.levels point axis before) in
      ap (slice_get (points_of grid)) further ∙ slice_get-place_at grid (next_point point axis) at.of (IsPoint-next_point grid point axis is_point (lower isn't_highest))

  -- what a test says of the next point here, and of those on the axes after this one
  module _ (test : List ℕ → Bool) where
    more : grid.axes - axis ≡ suc (grid.axes - (axis + 1))
    more = omega (arith, below)

    pub one-here : left % levels + 1 < levels → any_from test grid point axis ≡ (test (next_point point axis) || any_from test grid point (axis + 1))
    one-here isn't_highest =
        let has : nat_lt (get_or point axis 0 + 1) grid.levels ≡ true = grind (arith, nat_tests, lower isn't_highest) in
        rw more (rw has refl)

    pub none-here : levels ≤ left % levels + 1 → any_from test grid point axis ≡ any_from test grid point (axis + 1)
    none-here is_highest =
        let highest : grid.levels ≤ get_or point axis 0 + 1 = omega (arith, is_highest, level-there, at.count) in
        let has : nat_lt (get_or point axis 0 + 1) grid.levels ≡ false = grind (arith, nat_tests, highest) in
        rw more (rw has refl)
