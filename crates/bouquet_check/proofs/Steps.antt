-- Costs that double from contour to contour, and the first that doesn't.
use Rattle.std.proofs.Common.{◌≡◌, ◌≢◌, inl, inr, ℕ, zero, suc, ◌+◌, ◌*◌, ◌<◌, List, [], ◌∷◌, length, get_or, nat_eq, refl, arith}
use Rattle.std.specs.Prelude.{Some, None}
use Rattle.std.proofs.lemmas.Bool.{cases_Bool, eqb-true, eqb-false, eq-eqb}
use Rattle.bouquet_type.specs.Trees.{ContourTree}
use Rattle.bouquet_type.specs.Sound.{AreDoubled}
use Rattle.bouquet_check.specs.Verdicts.{wrong_step}

-- what is read past the end
abbrev pub no_contour : ContourTree
no_contour = record { cost = 0; plans = [] }

-- a contour that is told stands behind another one, and doesn't cost twice as much
pub record IsWrongFrom (number : ℕ) (contours : List ContourTree) (told place : ℕ) : Type 0 where
  pub numbered : told ≡ number + place + 1
  pub there : suc place < length contours
  pub cost : (get_or contours (suc place) no_contour).cost ≢ 2 * (get_or contours place no_contour).cost

pub wrong-told : (number : ℕ) (contours : List ContourTree) (told : ℕ) → wrong_step number contours ≡ Some told → (place : ℕ) × IsWrongFrom number contours told place
wrong-told number [] told step = absurd cc
wrong-told number (contour ∷ []) told step = absurd cc
wrong-told number (contour ∷ next ∷ more) told step =
    elim (cases_Bool (nat_eq next.cost (2 * contour.cost))) [
      | inl twice ↦
          let found = wrong-told (number + 1) (next ∷ more) told (rw twice at step) in (
            suc found.0,
            record { numbered = omega (arith, found.1.numbered); there = omega (arith, found.1.there); cost = found.1.cost },
          )
      | inr other ↦
          let here : Some (number + 1) ≡ Some told = rw other at step in
          let same : number + 1 ≡ told = cc in
          (zero, record { numbered = omega (arith, same); there = omega arith; cost = eqb-false _ _ other })
    ]

pub doubled-none : (number : ℕ) (contours : List ContourTree) → wrong_step number contours ≡ None → AreDoubled contours
doubled-none number [] none = tt
doubled-none number (contour ∷ []) none = tt
doubled-none number (contour ∷ next ∷ more) none =
    elim (cases_Bool (nat_eq next.cost (2 * contour.cost))) [
      | inl twice ↦ (eqb-true _ _ twice, doubled-none (number + 1) (next ∷ more) (rw twice at none))
      | inr other ↦ let here : Some (number + 1) ≡ None = rw other at none in absurd cc
    ]

pub none-doubled : (number : ℕ) (contours : List ContourTree) → AreDoubled contours → wrong_step number contours ≡ None
none-doubled number [] are = refl
none-doubled number (contour ∷ []) are = refl
none-doubled number (contour ∷ next ∷ more) are = rw (eq-eqb _ _ are.0) (none-doubled (number + 1) (next ∷ more) are.1)
