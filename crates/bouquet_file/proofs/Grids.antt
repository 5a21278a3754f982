-- The grid of levels that are in their range.
use Rattle.std.proofs.Common.{◌≡◌, ◌∙◌, ◌↔◌, inl, inr, ℕ, ◌^◌, ◌<◌, ◌≤◌, Some, Option, None, Result, Ok, Err, IfOk, option_map, refl, true≢false, ap, sym, subst, arith}
use Rattle.std.specs.Prelude.{IsOk}
use Rattle.std.specs.Result.{result_ok}
use Rattle.std.proofs.lemmas.Bool.{cases_lt, le-leb}
use Rattle.std.proofs.lemmas.Bool.Decides.{nat_tests}
use Rattle.sql_values.specs.Limits.{min_levels, max_levels, max_points}
use Rattle.ess_grid.specs.declared.fault.GridFault.{GridFault}
use Rattle.ess_grid.specs.declared.fault.GridFault.TheVariants.{BadLevels, TooManyPoints}
use Rattle.ess_grid.specs.Refused.{HasBadLevels, HasTooManyPoints}
use Rattle.bouquet_file.specs.Checks.{levels_within}

abbrev or-none : Option ℕ → ℕ
or-none (Some n) = n
or-none None = 0

-- it is made exactly where so many axes can have the levels
pub grid-levels : {T : Type 0} (see : T → ℕ) (made : T) (axes levels : ℕ) (r : Result T GridFault) → IfOk r (λ grid. grid ≡ made) → see made ≡ levels
    → ((given : ℕ) → (r ≡ Err (BadLevels given)) ↔ HasBadLevels (Some levels) given) → ((points : ℕ) → (r ≡ Err (TooManyPoints points)) ↔ HasTooManyPoints axes (Some levels) points)
    → min_levels ≤ levels → levels ≤ max_levels → option_map see (result_ok r) ≡ levels_within axes (Some levels)
grid-levels see made axes levels (Ok grid) is same bad many low high =
    elim (cases_lt max_points (levels ^ axes)) [
      | inl past ↦ absurd (true≢false (sym (subst IsOk ((many (levels ^ axes)).1 (record { some_levels = low; few_levels = high; are_so_many = refl; are_too_many = past })) refl)))
      | inr few ↦ rw (le-leb (levels ^ axes) max_points few) (ap Some (ap see is ∙ same))
    ]
grid-levels see made axes levels (Err (BadLevels given)) is same bad many low high =
    let found = (bad given).0 refl in
    let given_is : levels ≡ given = ap or-none found.are_given in
    elim found.are_bad [ inl below ↦ absurd (omega (arith, below, low, given_is)) | inr above ↦ absurd (omega (arith, above, high, given_is)) ]
grid-levels see made axes levels (Err (TooManyPoints points)) is same bad many low high =
    let found = (many points).0 refl in
    let past : max_points < levels ^ axes = omega (arith, found.are_so_many, found.are_too_many) in
    grind (arith, nat_tests, past)
