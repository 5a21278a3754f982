-- Two lists of which each pair of elements at one place is related.
use Rattle.std.proofs.Common.{◌≡◌, ℕ, zero, suc, ◌<◌, List, [], ◌∷◌, ◌++◌, length, get_or, refl, arith}
use Rattle.std.specs.List.{AllZip}

module _ {A B : Type 0} (R : A → B → Type 0) where
  pub length-AllZip : (xs : List A) (ys : List B) → AllZip R xs ys → length xs ≡ length ys
  length-AllZip [] [] all = refl
  length-AllZip [] (y ∷ ys) all = absurd all
  length-AllZip (x ∷ xs) [] all = absurd all
  length-AllZip (x ∷ xs) (y ∷ ys) all = omega (arith, length-AllZip xs ys all.1)

  pub AllZip-at : (xs : List A) (ys : List B) (i : ℕ) (d : A) (e : B) → AllZip R xs ys → i < length xs → R (get_or xs i d) (get_or ys i e)
  AllZip-at [] ys i d e all below = absurd (omega arith)
  AllZip-at (x ∷ xs) [] i d e all below = absurd all
  AllZip-at (x ∷ xs) (y ∷ ys) zero d e all below = all.0
  AllZip-at (x ∷ xs) (y ∷ ys) (suc i) d e all below = AllZip-at xs ys i d e all.1 (omega arith)

  pub AllZip-more : (xs : List A) (ys : List B) (x : A) (y : B) → AllZip R xs ys → R x y → AllZip R (xs ++ x ∷ []) (ys ++ y ∷ [])
  AllZip-more [] [] x y all one = (one, tt)
  AllZip-more [] (b ∷ ys) x y all one = absurd all
  AllZip-more (a ∷ xs) [] x y all one = absurd all
  AllZip-more (a ∷ xs) (b ∷ ys) x y all one = (all.0, AllZip-more xs ys x y all.1 one)

  pub AllZip-weaker : (S : A → B → Type 0) → ((x : A) (y : B) → R x y → S x y) → (xs : List A) (ys : List B) → AllZip R xs ys → AllZip S xs ys
  AllZip-weaker S then [] [] all = tt
  AllZip-weaker S then [] (y ∷ ys) all = all
  AllZip-weaker S then (x ∷ xs) [] all = all
  AllZip-weaker S then (x ∷ xs) (y ∷ ys) all = (then x y all.0, AllZip-weaker S then xs ys all.1)
