-- Numbers that stand by the places of points.
use Rattle.std.proofs.Common.{◌≡◌, ◌∙◌, ℕ, ◌-◌, ◌<◌, ◌≤◌, List, [], length, map, get_or, Some, ap, sym, arith}
use Rattle.std.specs.Prelude.{slice_get}
use Rattle.std.proofs.lemmas.List.{get_or_read, get_or-map, length-map}
use Rattle.std.proofs.lemmas.Option.{slice_get-get_or, slice_get_within}
use Rattle.std.proofs.Math.Nat.{one-le-pow}
use Rattle.ess_grid.specs.Points.{GridShape, IsGrid, point_at, points_of, top_of}
use Rattle.ess_grid.proofs.GridPoints.{length-points_of, slice_get-top}

-- the point at a place
pub point-there : (points : List (List ℕ)) (place : ℕ) (point : List ℕ) → slice_get points place ≡ Some point → point ≡ get_or points place []
point-there points place point is =
    let there = slice_get-get_or points place [] (slice_get_within points place point is) in
    cc

-- what is read at a place is the number of the point there
pub number-there : (f : List ℕ → ℕ) (points : List (List ℕ)) (numbers : List ℕ) (place n : ℕ) → numbers ≡ map f points → place < length points → n ≡ get_or numbers place n
    → n ≡ f (get_or points place [])
number-there f points numbers place n are below read =
    let read' : n ≡ get_or (map f points) place n = read ∙ ap (λ all. get_or all place n) are in
    get_or_read (map f points) place n (omega (arith, below, length-map points f)) read' 0 ∙ get_or-map f points place [] 0 below

-- so it is where the point is known
pub number-of-point : (f : List ℕ → ℕ) (points : List (List ℕ)) (numbers : List ℕ) (place n : ℕ) (point : List ℕ) → numbers ≡ map f points → slice_get points place ≡ Some point
    → n ≡ get_or numbers place n → n ≡ f point
number-of-point f points numbers place n point are is read =
    number-there f points numbers place n are (slice_get_within points place point is) read ∙ ap f (sym (point-there points place point is))

-- the places of the bottom and of the top
pub some-points : (grid : GridShape) → IsGrid grid → 1 ≤ length (points_of grid)
some-points grid is = omega (arith, length-points_of grid, one-le-pow grid.axes grid.levels (omega (arith, is.some_levels)))

pub top-there : (grid : GridShape) → IsGrid grid → (points : ℕ) → points ≡ length (points_of grid) → point_at grid (points - 1) ≡ Some (top_of grid)
top-there grid is points count = ap (λ n. point_at grid (n - 1)) (count ∙ length-points_of grid) ∙ slice_get-top grid is
