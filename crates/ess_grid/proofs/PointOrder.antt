-- The order of points: it is a partial order, and nothing lies between a point and the next one on an axis.
use Rattle.std.proofs.Common.{◌≡◌, ◌⊎◌, inl, inr, ℕ, zero, suc, ◌+◌, ◌<◌, ◌≤◌, List, [], ◌∷◌, length, refl, ap, ⊎_elim, le_refl, arith}
use Rattle.std.proofs.lemmas.Grind.{common_steps}
use Rattle.std.specs.Prelude.{slice_index}
use Rattle.std.proofs.lemmas.Bool.{cases_lt}
use Rattle.ess_grid.specs.Order.{PointBelow, next_point}

-- a point has as many levels as one that it is below
pub length-below : (point other : List ℕ) → PointBelow point other → length point ≡ length other
length-below [] [] is_below = refl
length-below [] (y ∷ ys) is_below = absurd is_below
length-below (x ∷ xs) [] is_below = absurd is_below
length-below (x ∷ xs) (y ∷ ys) is_below = ap suc (length-below xs ys is_below.1)

-- on every axis its level is at most the other's
pub level-below : (point other : List ℕ) → PointBelow point other → (axis : ℕ) → slice_index point axis ≤ slice_index other axis
level-below [] [] is_below axis = le_refl 0
level-below [] (y ∷ ys) is_below axis = absurd is_below
level-below (x ∷ xs) [] is_below axis = absurd is_below
level-below (x ∷ xs) (y ∷ ys) is_below zero = is_below.0
level-below (x ∷ xs) (y ∷ ys) is_below (suc axis) = level-below xs ys is_below.1 axis

-- and where that is so it is below
pub PointBelow-from_levels : (point other : List ℕ) → length point ≡ length other → ((axis : ℕ) → axis < length point → slice_index point axis ≤ slice_index other axis) → PointBelow point other
PointBelow-from_levels [] [] same below = tt
PointBelow-from_levels [] (y ∷ ys) same below = absurd (omega (arith, same))
PointBelow-from_levels (x ∷ xs) [] same below = absurd (omega (arith, same))
PointBelow-from_levels (x ∷ xs) (y ∷ ys) same below =
    (below 0 (omega arith), PointBelow-from_levels xs ys (omega (arith, same)) (λ axis there. below (suc axis) (omega (arith, there))))

pub PointBelow-refl : (point : List ℕ) → PointBelow point point
PointBelow-refl [] = tt
PointBelow-refl (x ∷ xs) = (le_refl x, PointBelow-refl xs)

pub PointBelow-trans : (point middle other : List ℕ) → PointBelow point middle → PointBelow middle other → PointBelow point other
PointBelow-trans [] [] [] first second = tt
PointBelow-trans [] [] (z ∷ zs) first second = absurd second
PointBelow-trans [] (y ∷ ys) zs first second = absurd first
PointBelow-trans (x ∷ xs) [] zs first second = absurd first
PointBelow-trans (x ∷ xs) (y ∷ ys) [] first second = absurd second
PointBelow-trans (x ∷ xs) (y ∷ ys) (z ∷ zs) first second =
    (omega (arith, first.0, second.0), PointBelow-trans xs ys zs first.1 second.1)

pub PointBelow-antisym : (point other : List ℕ) → PointBelow point other → PointBelow other point → point ≡ other
PointBelow-antisym [] [] first second = refl
PointBelow-antisym [] (y ∷ ys) first second = absurd first
PointBelow-antisym (x ∷ xs) [] first second = absurd first
PointBelow-antisym (x ∷ xs) (y ∷ ys) first second =
    let same : x ≡ y = omega (arith, first.0, second.0) in
    λ i. same i ∷ PointBelow-antisym xs ys first.1 second.1 i

-- the next point on an axis is above
pub PointBelow-next_point : (point : List ℕ) (axis : ℕ) → PointBelow point (next_point point axis)
PointBelow-next_point [] axis = tt
PointBelow-next_point (x ∷ xs) zero = (omega arith, PointBelow-refl xs)
PointBelow-next_point (x ∷ xs) (suc axis) = (le_refl x, PointBelow-next_point xs axis)

-- what lies between a point and the next one on an axis is one of the two
pub next_point-adjacent : (point : List ℕ) (axis : ℕ) (between : List ℕ) → PointBelow point between → PointBelow between (next_point point axis) → (between ≡ point) ⊎ (between ≡ next_point point axis)
next_point-adjacent [] axis [] above below = inl refl
next_point-adjacent [] axis (y ∷ ys) above below = absurd above
next_point-adjacent (x ∷ xs) axis [] above below = absurd above
next_point-adjacent (x ∷ xs) zero (y ∷ ys) above below =
    let rest : ys ≡ xs = PointBelow-antisym ys xs below.1 above.1 in
    ⊎_elim
    (λ higher. let same : y ≡ x + 1 = omega (arith, higher, below.0) in inr (λ i. same i ∷ rest i))
    (λ lower. let same : y ≡ x = omega (arith, lower, above.0) in inl (λ i. same i ∷ rest i))
    (cases_lt x y)
next_point-adjacent (x ∷ xs) (suc axis) (y ∷ ys) above below =
    grind (arith, common_steps, ⊎_elim, next_point-adjacent xs axis ys above.1 below.1)

pub ruleset of_order = (length-below, level-below, PointBelow-from_levels)
