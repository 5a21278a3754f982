-- What is among the items of a list that is put together.
use Rattle.std.proofs.Common.{◌≡◌, ◌⊎◌, inl, inr, ℕ, zero, suc, ◌+◌, ◌<◌, ◌≤◌, List, [], ◌∷◌, ◌++◌, map, filter, refl, ap, sym, subst, ◌∙◌, arith}
use Rattle.std.specs.Prelude.{Bool, true, Contains}
use Rattle.std.specs.List.{flat_map, list_any, range_with_len}
use Rattle.std.proofs.lemmas.Bool.{cases_Bool, cases_order}

abbrev pub IsIn : {X : Type 0} → X → List X → Type 0
IsIn x [] = ⊥
IsIn x (y ∷ ys) = (y ≡ x) ⊎ IsIn x ys

pub in-contained : {X : Type 0} (x : X) (xs : List X) → Contains xs x → IsIn x xs
in-contained x [] (k, below, at) = absurd (omega (arith, below))
in-contained x (y ∷ ys) (zero, below, at) = inl at
in-contained x (y ∷ ys) (suc k, below, at) = inr (in-contained x ys (k, omega (arith, below), at))

pub contained-in : {X : Type 0} (x : X) (xs : List X) → IsIn x xs → Contains xs x
contained-in x [] is = absurd is
contained-in x (y ∷ ys) (inl same) = (0, omega arith, same)
contained-in x (y ∷ ys) (inr more) =
    let found = contained-in x ys more in
    (suc found.0, omega (arith, found.1), found.2)

pub in-left : {X : Type 0} (x : X) (xs ys : List X) → IsIn x xs → IsIn x (xs ++ ys)
in-left x [] ys is = absurd is
in-left x (z ∷ zs) ys (inl same) = inl same
in-left x (z ∷ zs) ys (inr more) = inr (in-left x zs ys more)

pub in-right : {X : Type 0} (x : X) (xs ys : List X) → IsIn x ys → IsIn x (xs ++ ys)
in-right x [] ys is = is
in-right x (z ∷ zs) ys is = inr (in-right x zs ys is)

pub of-either : {X : Type 0} (x : X) (xs ys : List X) → IsIn x (xs ++ ys) → IsIn x xs ⊎ IsIn x ys
of-either x [] ys is = inr is
of-either x (z ∷ zs) ys (inl same) = inl (inl same)
of-either x (z ∷ zs) ys (inr more) = elim (of-either x zs ys more) [ inl a ↦ inl (inr a) | inr b ↦ inr b ]

pub in-map : {X Y : Type 0} (f : X → Y) (x : X) (xs : List X) → IsIn x xs → IsIn (f x) (map f xs)
in-map f x [] is = absurd is
in-map f x (z ∷ zs) (inl same) = inl (ap f same)
in-map f x (z ∷ zs) (inr more) = inr (in-map f x zs more)

pub of-map : {X Y : Type 0} (f : X → Y) (y : Y) (xs : List X) → IsIn y (map f xs) → (x : X) × IsIn x xs × (f x ≡ y)
of-map f y [] is = absurd is
of-map f y (z ∷ zs) (inl same) = (z, inl refl, same)
of-map f y (z ∷ zs) (inr more) =
    let found = of-map f y zs more in
    (found.0, inr found.1, found.2)

pub in-filter : {X : Type 0} (test : X → Bool) (x : X) (xs : List X) → IsIn x xs → test x ≡ true → IsIn x (filter test xs)
in-filter test x [] is passes = absurd is
in-filter test x (z ∷ zs) (inl same) passes = rw (ap test same ∙ passes) (inl same)
in-filter test x (z ∷ zs) (inr more) passes =
    elim (cases_Bool (test z)) [ inl kept ↦ rw kept (inr (in-filter test x zs more passes)) | inr out ↦ rw out (in-filter test x zs more passes) ]

pub of-filter : {X : Type 0} (test : X → Bool) (x : X) (xs : List X) → IsIn x (filter test xs) → IsIn x xs × (test x ≡ true)
of-filter test x [] is = absurd is
of-filter test x (z ∷ zs) is =
    elim (cases_Bool (test z)) [
      | inl kept ↦ elim (rw kept at is) [
        | inl same ↦ (inl same, ap test (sym same) ∙ kept)
        | inr more ↦ (inr (of-filter test x zs more).0, (of-filter test x zs more).1)
      ]
      | inr out ↦ let more = of-filter test x zs (rw out at is) in (inr more.0, more.1)
    ]

pub in-flat : {X Y : Type 0} (f : X → List Y) (x : X) (y : Y) (xs : List X) → IsIn x xs → IsIn y (f x) → IsIn y (flat_map f xs)
in-flat f x y [] is there = absurd is
in-flat f x y (z ∷ zs) (inl same) there = in-left y (f z) (flat_map f zs) (subst (λ one. IsIn y (f one)) (sym same) there)
in-flat f x y (z ∷ zs) (inr more) there = in-right y (f z) (flat_map f zs) (in-flat f x y zs more there)

pub of-flat : {X Y : Type 0} (f : X → List Y) (y : Y) (xs : List X) → IsIn y (flat_map f xs) → (x : X) × IsIn x xs × IsIn y (f x)
of-flat f y [] is = absurd is
of-flat f y (z ∷ zs) is =
    elim (of-either y (f z) (flat_map f zs) is) [
      | inl here ↦ (z, inl refl, here)
      | inr more ↦ let found = of-flat f y zs more in (found.0, inr found.1, found.2)
    ]

pub in-range : (i a n : ℕ) → a ≤ i → i < a + n → IsIn i (range_with_len a n)
in-range i a zero from below = absurd (omega (arith, from, below))
in-range i a (suc n) from below =
    elim (cases_order a i) [
      | inl same ↦ inl same
      | inr order ↦ elim order [
        | inl less ↦ inr (in-range i (a + 1) n (omega (arith, less)) (omega (arith, below)))
        | inr past ↦ absurd (omega (arith, past, from))
      ]
    ]

pub of-range : (i a n : ℕ) → IsIn i (range_with_len a n) → (a ≤ i) × (i < a + n)
of-range i a zero is = absurd is
of-range i a (suc n) (inl same) = (omega (arith, same), omega (arith, same))
of-range i a (suc n) (inr more) =
    let rest = of-range i (a + 1) n more in
    (omega (arith, rest.0), omega (arith, rest.1))

pub of-any : {X : Type 0} (test : X → Bool) (xs : List X) → list_any test xs ≡ true → (x : X) × IsIn x xs × (test x ≡ true)
of-any test [] some = absurd (grind (arith, some))
of-any test (z ∷ zs) some =
    elim (cases_Bool (test z)) [
      | inl here ↦ (z, inl refl, here)
      | inr out ↦ let found = of-any test zs (grind (arith, some, out)) in (found.0, inr found.1, found.2)
    ]
