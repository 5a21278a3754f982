-- The test whether a point is at or below another one.
use Rattle.std.proofs.Common.{◌≡◌, ◌∙◌, ◌↔◌, inl, inr, ℕ, List, [], ◌∷◌, refl, sym}
use Rattle.std.specs.Prelude.{Bool, true, false, IsTrue}
use Rattle.std.proofs.lemmas.Bool.{cases_Bool, and_from, and_parts, le-leb, leb-true}
use Rattle.ess_grid.specs.Order.{PointBelow}
use Rattle.learned_run.specs.Skips.{is_at_or_below}

pub below-passes : (point other : List ℕ) → PointBelow point other → is_at_or_below point other ≡ true
below-passes [] [] below = refl
below-passes [] (y ∷ ys) below = absurd below
below-passes (x ∷ xs) [] below = absurd below
below-passes (x ∷ xs) (y ∷ ys) below = and_from _ _ (le-leb _ _ below.0) (below-passes xs ys below.1)

pub passes-below : (point other : List ℕ) → is_at_or_below point other ≡ true → PointBelow point other
passes-below [] [] passes = tt
passes-below [] (y ∷ ys) passes = absurd cc
passes-below (x ∷ xs) [] passes = absurd cc
passes-below (x ∷ xs) (y ∷ ys) passes =
    let parts = and_parts _ _ passes in
    (leb-true _ _ parts.0, passes-below xs ys parts.1)

pub below-told : (told : Bool) (point other : List ℕ) → (IsTrue told ↔ PointBelow point other) → told ≡ is_at_or_below point other
below-told true point other is = sym (below-passes point other (is.0 refl))
below-told false point other is =
    elim (cases_Bool (is_at_or_below point other)) [
      | inl passes ↦ is.1 (passes-below point other passes) ∙ sym passes
      | inr fails ↦ sym fails
    ]
