-- Lists with the same elements in another order: what filters, maps and joins make of them has the same elements too.
use Rattle.std.proofs.Common.{All, ◌≡◌, ℕ, zero, suc, ◌<◌, List, [], ◌∷◌, ◌++◌, length, get_or, set, sym, subst, arith}
use Rattle.std.specs.List.{flat_map, swap}
use Rattle.std.specs.List.Sorted.{IsPermutation}
use Rattle.std.proofs.lemmas.List.Edits.{swap_is}
use Rattle.std.proofs.lemmas.List.Elements.{All-head, All-tail}
use Rattle.std.proofs.lemmas.List.Sorted.{IsPermutation-refl, IsPermutation-keeps, IsPermutation-trans, IsPermutation-append, IsPermutation-append_comm, IsPermutation-append_left, IsPermutation-append_right}

pub andthen : {X : Type 0} {xs ys zs : List X} → IsPermutation xs ys → IsPermutation ys zs → IsPermutation xs zs
andthen = IsPermutation-trans _ _ _

pub equal : {X : Type 0} {xs ys : List X} → xs ≡ ys → IsPermutation xs ys
equal {xs = xs} e = subst (IsPermutation xs) e (IsPermutation-refl xs)

-- a list that is made of the elements, one after the other
module _ {X Y : Type 0} (made : List X → List Y) (joins : (xs ys : List X) → made (xs ++ ys) ≡ made xs ++ made ys) where
  behind : (x : X) {xs ys : List X} → IsPermutation (made xs) (made ys) → IsPermutation (made (x ∷ xs)) (made (x ∷ ys))
  behind x {xs} {ys} same = andthen (equal (joins (x ∷ []) xs)) (andthen (IsPermutation-append_right (made (x ∷ [])) _ _ same) (equal (sym (joins (x ∷ []) ys))))

  pair : (x y : X) → IsPermutation (made (x ∷ y ∷ [])) (made (y ∷ x ∷ []))
  pair x y = andthen (equal (joins (x ∷ []) (y ∷ []))) (andthen (IsPermutation-append_comm (made (x ∷ [])) (made (y ∷ []))) (equal (sym (joins (y ∷ []) (x ∷ [])))))

  first-two : (x y : X) (xs : List X) → IsPermutation (made (x ∷ y ∷ xs)) (made (y ∷ x ∷ xs))
  first-two x y xs = andthen (equal (joins (x ∷ y ∷ []) xs)) (andthen (IsPermutation-append_left (made xs) _ _ (pair x y)) (equal (sym (joins (y ∷ x ∷ []) xs))))

  -- an element before a list changes places with one of the list
  first-with : (x : X) (xs : List X) (i : ℕ) (d : X) → i < length xs → IsPermutation (made (x ∷ xs)) (made (get_or xs i d ∷ set xs i x))
  first-with x [] i d below = absurd (omega (arith, below))
  first-with x (y ∷ ys) zero d below = first-two x y ys
  first-with x (y ∷ ys) (suc i) d below =
      andthen (first-two x y ys) (andthen (behind y (first-with x ys i d (omega (arith, below)))) (first-two y (get_or ys i d) (set ys i x)))

  two-change : (xs : List X) (i j : ℕ) (d : X) → i < length xs → j < length xs → IsPermutation (made xs) (made (set (set xs i (get_or xs j d)) j (get_or xs i d)))
  two-change [] i j d below within = absurd (omega (arith, below))
  two-change (x ∷ xs) zero zero d below within = IsPermutation-refl (made (x ∷ xs))
  two-change (x ∷ xs) zero (suc j) d below within = first-with x xs j d (omega (arith, within))
  two-change (x ∷ xs) (suc i) zero d below within = first-with x xs i d (omega (arith, below))
  two-change (x ∷ xs) (suc i) (suc j) d below within = behind x (two-change xs i j d (omega (arith, below)) (omega (arith, within)))

  swapped : (xs : List X) (i j : ℕ) → i < length xs → j < length xs → IsPermutation (made xs) (made (swap xs i j))
  swapped [] i j below within = IsPermutation-refl (made [])
  swapped (x ∷ xs) i j below within = subst (λ ys. IsPermutation (made (x ∷ xs)) (made ys)) (swap_is (x ∷ xs) i j x below within) (two-change (x ∷ xs) i j x below within)

  pub permuted : {xs ys : List X} → IsPermutation xs ys → IsPermutation (made xs) (made ys)
  permuted {xs} {ys} same =
      IsPermutation-keeps xs (λ zs. IsPermutation (made xs) (made zs)) (IsPermutation-refl (made xs)) (λ zs i j below within so_far. andthen so_far (swapped zs i j below within)) ys same

-- pieces in another order each, where something holds of what they are made of
pub pieces : {X Y : Type 0} (P : X → Type 0) (f g : X → List Y) → ((x : X) → P x → IsPermutation (f x) (g x)) → (xs : List X) → All P xs → IsPermutation (flat_map f xs) (flat_map g xs)
pieces P f g each [] all = IsPermutation-refl []
pieces P f g each (x ∷ xs) all = IsPermutation-append _ _ _ _ (each x (All-head P x xs all)) (pieces P f g each xs (All-tail P x xs all))

pub each-piece : {X Y : Type 0} (f g : X → List Y) → ((x : X) → IsPermutation (f x) (g x)) → (xs : List X) → IsPermutation (flat_map f xs) (flat_map g xs)
each-piece f g each xs = pieces (λ _. Unit {0}) f g (λ x _. each x) xs (λ k d below. tt)
