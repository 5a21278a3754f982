-- The points of a grid: each is at one place, the first is the bottom and the last the top.
use Rattle.std.proofs.Common.{◌≡◌, ℕ, zero, suc, ◌+◌, ◌-◌, ◌*◌, ◌^◌, ◌<◌, ◌≤◌, List, [], ◌∷◌, length, get_or, drop, Some, refl, ap, sym, subst, ◌∙◌, arith, sum, length-set}
use Rattle.std.proofs.lemmas.Grind.{common_steps}
use Rattle.std.proofs.lemmas.List.{length-replicate}
use Rattle.std.specs.Prelude.{All, slice_get, slice_index, replicate}
use Rattle.std.proofs.lemmas.List.Elements.{All-set, All-replicate, All-from_get_or}
use Rattle.std.proofs.lemmas.List.Sums.{sum_by-set, sum_by-cons}
use Rattle.std.proofs.lemmas.Option.{slice_get_within}
use Rattle.std.proofs.Math.Nat.{pow-zero, pow-suc, zero-mod, zero-div, one-le-pow}
use Rattle.sql_values.specs.Limits.{max_points}
use Rattle.ess_grid.specs.Points.{GridShape, IsGrid, IsPoint, points_of, bottom_of, top_of}
use Rattle.ess_grid.specs.Order.{PointBelow, next_point}
use Rattle.ess_grid.proofs.PointsAmong as among
use Rattle.ess_grid.proofs.PointsAmong.{levels_at, place_at}

some_levels : (grid : GridShape) → IsGrid grid → 0 < grid.levels
some_levels grid is_grid = omega (arith, is_grid.some_levels)

pub length-points_of : (grid : GridShape) → length (points_of grid) ≡ grid.levels ^ grid.axes
length-points_of grid = among.length-points_among grid.levels grid.axes

-- point i has the levels of i
pub slice_get-points_of : (grid : GridShape) (i : ℕ) → IsGrid grid → i < grid.levels ^ grid.axes → slice_get (points_of grid) i ≡ Some (levels_at grid.levels grid.axes i)
slice_get-points_of grid i is_grid there =
    among.slice_get-points_among grid.levels grid.axes i (some_levels grid is_grid) there

-- and these are a point of the grid
pub IsPoint-levels_at : (grid : GridShape) (i : ℕ) → IsGrid grid → IsPoint grid (levels_at grid.levels grid.axes i)
IsPoint-levels_at grid i is_grid = record {
  axes = among.length-levels_at grid.levels grid.axes i;
  levels = among.All-levels_at grid.levels grid.axes i (some_levels grid is_grid);
}

-- all points are points of the grid
pub All-points_of : (grid : GridShape) → IsGrid grid → All (IsPoint grid) (points_of grid)
All-points_of grid is_grid =
    All-from_get_or (IsPoint grid) (points_of grid) []
    (λ i there.
    let below : i < grid.levels ^ grid.axes = omega (arith, there, length-points_of grid) in
    let is_point = IsPoint-levels_at grid i is_grid in
    rw (among.get_or-points_among grid.levels grid.axes i (some_levels grid is_grid) below) is_point)

-- a point of the grid is at its place
pub place_at-below : (grid : GridShape) (point : List ℕ) → IsPoint grid point → place_at grid.levels point < grid.levels ^ grid.axes
place_at-below grid point is_point =
    subst (λ axes. place_at grid.levels point < grid.levels ^ axes) is_point.axes (among.place_at-below grid.levels point is_point.levels)

pub slice_get-place_at : (grid : GridShape) (point : List ℕ) → IsGrid grid → IsPoint grid point → slice_get (points_of grid) (place_at grid.levels point) ≡ Some point
slice_get-place_at grid point is_grid is_point =
    slice_get-points_of grid (place_at grid.levels point) is_grid (place_at-below grid point is_point)
    ∙ ap (λ axes. Some (levels_at grid.levels axes (place_at grid.levels point))) (sym is_point.axes)
    ∙ ap Some (among.levels_at-place_at grid.levels point is_point.levels)

-- and at no other one
pub place_once : (grid : GridShape) (point : List ℕ) (place : ℕ) → IsGrid grid → slice_get (points_of grid) place ≡ Some point → place ≡ place_at grid.levels point
place_once grid point place is_grid stands =
    let there : place < grid.levels ^ grid.axes = omega (arith, slice_get_within (points_of grid) place point stands, length-points_of grid) in
    let stands_there = slice_get-points_of grid place is_grid there in
    let same : levels_at grid.levels grid.axes place ≡ point = cc in
    sym (among.place_at-levels_at grid.levels grid.axes place (some_levels grid is_grid) there)
    ∙ ap (place_at grid.levels) same

-- the place among the axes from one on is a place of the grid
pub place_at-drop-fits : (grid : GridShape) (point : List ℕ) (axis : ℕ) → IsGrid grid → IsPoint grid point → 1 ≤ axis → axis ≤ length point → place_at grid.levels (drop axis point) * grid.levels + get_or point (axis - 1) 0 ≤ max_points
place_at-drop-fits grid point axis is_grid is_point some there =
    let one_more : axis - 1 + 1 ≡ axis = omega arith in
    let step = among.place_at-drop grid.levels point (axis - 1) (omega (arith, some, there)) in
    let whole = among.place_at-drop-le grid.levels point (axis - 1) (some_levels grid is_grid) in
    let stepped : place_at grid.levels (drop (axis - 1) point) ≡ place_at grid.levels (drop axis point) * grid.levels + get_or point (axis - 1) 0 = rw one_more at step in
    omega (arith, stepped, whole, place_at-below grid point is_point, is_grid.few_points)

-- ---- bottom and top

levels_at-first : (levels axes : ℕ) → levels_at levels axes 0 ≡ replicate axes 0
levels_at-first levels zero = refl
levels_at-first levels (suc others) =
    λ i. zero-mod levels i ∷ (ap (levels_at levels others) (zero-div levels) ∙ levels_at-first levels others) i

pub slice_get-bottom : (grid : GridShape) → IsGrid grid → slice_get (points_of grid) 0 ≡ Some (bottom_of grid)
slice_get-bottom grid is_grid =
    grind (arith, common_steps, slice_get-points_of, one-le-pow, some_levels, levels_at-first)

place_at-last : (levels axes : ℕ) → 0 < levels → place_at levels (replicate axes (levels - 1)) + 1 ≡ levels ^ axes
place_at-last levels zero some = sym (pow-zero levels)
place_at-last levels (suc others) some =
    let before = place_at-last levels others some in
    let place = place_at levels (replicate others (levels - 1)) in
    let more : place * levels + (levels - 1) + 1 ≡ (place + 1) * levels = grind (arith, some) in
    more ∙ ap (λ n. n * levels) before ∙ sym (pow-suc levels others)

pub IsPoint-top : (grid : GridShape) → IsGrid grid → IsPoint grid (top_of grid)
IsPoint-top grid is_grid = grind (arith, common_steps, length-replicate, All-replicate)

pub slice_get-top : (grid : GridShape) → IsGrid grid → slice_get (points_of grid) (grid.levels ^ grid.axes - 1) ≡ Some (top_of grid)
slice_get-top grid is_grid =
    let last : grid.levels ^ grid.axes - 1 ≡ place_at grid.levels (top_of grid) = omega (arith, place_at-last grid.levels grid.axes (some_levels grid is_grid)) in
    ap (slice_get (points_of grid)) last ∙ slice_get-place_at grid (top_of grid) is_grid (IsPoint-top grid is_grid)

bottom_below : (point : List ℕ) → PointBelow (replicate (length point) 0) point
bottom_below [] = tt
bottom_below (level ∷ rest) = (omega arith, bottom_below rest)

pub PointBelow-bottom : (grid : GridShape) (point : List ℕ) → IsPoint grid point → PointBelow (bottom_of grid) point
PointBelow-bottom grid point is_point =
    subst (λ axes. PointBelow (replicate axes 0) point) is_point.axes (bottom_below point)

below_top : (levels : ℕ) (point : List ℕ) → All (λ level. level < levels) point → PointBelow point (replicate (length point) (levels - 1))
below_top levels [] all = tt
below_top levels (level ∷ rest) all =
    (omega (arith, all 0 level (omega arith)), below_top levels rest (λ axis d there. all (suc axis) d (omega (arith, there))))

pub PointBelow-top : (grid : GridShape) (point : List ℕ) → IsPoint grid point → PointBelow point (top_of grid)
PointBelow-top grid point is_point =
    subst (λ axes. PointBelow point (replicate axes (grid.levels - 1))) is_point.axes (below_top grid.levels point is_point.levels)

-- ---- the next point on an axis

pub IsPoint-next_point : (grid : GridShape) (point : List ℕ) (axis : ℕ) → IsPoint grid point → slice_index point axis + 1 < grid.levels → IsPoint grid (next_point point axis)
IsPoint-next_point grid point axis is_point lower = grind (arith, common_steps, length-set, All-set)

-- its levels sum up to one more
pub sum-next_point : (point : List ℕ) (axis : ℕ) → axis < length point → sum (next_point point axis) ≡ sum point + 1
sum-next_point point axis there =
    omega (arith, sum_by-set (λ level. level) point axis (slice_index point axis + 1) 0 there)

sum_below : (levels : ℕ) (point : List ℕ) → All (λ level. level < levels) point → sum point ≤ length point * (levels - 1)
sum_below levels [] all = omega arith
sum_below levels (level ∷ rest) all =
    let more = sum_below levels rest (λ axis d there. all (suc axis) d (omega (arith, there))) in
    let here : level < levels = all 0 level (omega arith) in
    let split : suc (length rest) * (levels - 1) ≡ length rest * (levels - 1) + (levels - 1) = grind arith in
    omega (arith, sum_by-cons (λ l. l) level rest, more, here, split)

-- and no sum is greater than the top's
pub sum-below : (grid : GridShape) (point : List ℕ) → IsPoint grid point → sum point ≤ grid.axes * (grid.levels - 1)
sum-below grid point is_point =
    subst (λ axes. sum point ≤ axes * (grid.levels - 1)) is_point.axes (sum_below grid.levels point is_point.levels)
