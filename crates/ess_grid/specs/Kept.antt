-- How points are kept.
use Rattle.std.specs.Prelude.{◌≡◌, ℕ, ◌-◌, ◌≤◌, List, ◌++◌, length, take, drop, replicate}
use Rattle.std.proofs.Common.{sym, ap, ◌∙◌, arith, take-append-drop, length-take-le}
use Rattle.sql_values.specs.Limits.{max_axes}

-- a point's levels stand in an array with a place for each axis that a grid may have; the places past its axes are 0
pub record IsPadded (axes : ℕ) (levels : List ℕ) : Type 0 where
  pub few : axes ≤ max_axes
  pub long : length levels ≡ max_axes
  pub zeros : drop axes levels ≡ replicate (max_axes - axes) 0

-- levels filled up with zeros
abbrev pub padded : List ℕ → List ℕ
padded levels = levels ++ replicate (max_axes - length levels) 0

-- a point has as many levels as axes
pub length-take : (axes : ℕ) (levels : List ℕ) → IsPadded axes levels → length (take axes levels) ≡ axes
length-take axes levels is_padded = length-take-le axes levels (omega (arith, is_padded.few, is_padded.long))

-- its levels filled up are the array
pub padded-take : (axes : ℕ) (levels : List ℕ) → IsPadded axes levels → padded (take axes levels) ≡ levels
padded-take axes levels is_padded =
    ap (λ n. take axes levels ++ replicate (max_axes - n) 0) (length-take axes levels is_padded)
    ∙ ap (λ rest. take axes levels ++ rest) (sym is_padded.zeros)
    ∙ take-append-drop axes levels
