-- The point next below a point on an axis, found by its place.
use Rattle.std.proofs.Common.{◌≡◌, ◌∙◌, ℕ, zero, suc, ◌+◌, ◌-◌, ◌%◌, ◌<◌, ◌≤◌, List, [], ◌∷◌, length, get_or, length-set, ap, sym, arith}
use Rattle.std.specs.Prelude.{Some, slice_get, slice_index, slice_set}
use Rattle.std.proofs.lemmas.List.Elements.{All-set}
use Rattle.std.proofs.Math.Nat.{one-le-pow}
use Rattle.ess_grid.specs.Points.{GridShape, IsPoint, points_of}
use Rattle.ess_grid.specs.Order.{next_point}
use Rattle.ess_grid.proofs.PointsAmong.{place_at}
use Rattle.ess_grid.proofs.GridPoints.{slice_get-place_at}
use Rattle.plan_space.specs.KnownCosts.{IsBeyond}
use Rattle.std.proofs.lemmas.Option.{slice_get-get_or}
use Rattle.plan_space.proofs.Successors.{IsAtAxis, before, is_point, level-there, place_at-next_point, stands}

-- one level lower on an axis, and one higher again
abbrev lower_point : List ℕ → (axis : ℕ) → List ℕ
lower_point point axis = slice_set point axis (slice_index point axis - 1)

next-lower : (point : List ℕ) (axis : ℕ) → axis < length point → 0 < slice_index point axis → next_point (lower_point point axis) axis ≡ point
next-lower [] axis there higher = absurd (omega (arith, there))
next-lower (level ∷ rest) zero there higher =
    let same : level - 1 + 1 ≡ level = omega (arith, higher) in
    ap (λ n. n ∷ rest) same
next-lower (level ∷ rest) (suc axis) there higher = ap (λ more. level ∷ more) (next-lower rest axis (omega (arith, there)) higher)

module _ {grid : GridShape} {place levels axis left stride : ℕ} (at : IsAtAxis grid place levels axis left stride) (below : axis < grid.axes) (higher : 0 < left % levels) where
  abbrev point : List ℕ
  point = get_or (points_of grid) place []

  abbrev lower : List ℕ
  lower = lower_point point axis

  some-level : 0 < slice_index point axis
  some-level = omega (arith, higher, level-there at below)

  next : next_point lower axis ≡ point
  next = next-lower point axis (before at below) some-level

  lower-is : IsPoint grid lower
  lower-is =
      let is = is_point at below in
      record {
        axes = length-set point axis (slice_index point axis - 1) ∙ is.axes;
        levels = All-set (λ level. level < grid.levels) point axis (slice_index point axis - 1) (omega (arith, is.levels axis 0 (before at below), some-level)) is.levels;
      }

  apart : place ≡ place_at grid.levels lower + stride
  apart =
      stands grid place at.of at.there
      ∙ ap (place_at grid.levels) (sym next)
      ∙ place_at-next_point grid.levels lower axis (omega (arith, before at below, length-set point axis (slice_index point axis - 1)))
      ∙ ap (λ n. place_at grid.levels lower + n) (sym at.power)

  pub stride-before : stride ≤ place
  stride-before = omega (arith, apart)

  lower-there : slice_get (points_of grid) (place - stride) ≡ Some lower
  lower-there =
      let before : place - stride ≡ place_at grid.levels lower = omega (arith, apart) in
      ap (slice_get (points_of grid)) before ∙ slice_get-place_at grid lower at.of lower-is

  some-stride : 0 < stride
  some-stride = omega (arith, at.power, one-le-pow axis grid.levels (omega (arith, at.of.some_levels)))

  -- more than a cost stands there
  pub beyond-there : (costs : List ℕ) (cost : ℕ) → cost < slice_index costs (place - stride) → IsBeyond grid costs cost place
  beyond-there costs cost dearer = record {
    axis = axis;
    below = place - stride;
    lower = lower;
    earlier = omega (arith, apart, some-stride);
    there = lower-there;
    next = slice_get-get_or (points_of grid) place [] at.there ∙ ap Some (sym next);
    dearer = dearer;
  }
