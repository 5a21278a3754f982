-- Lists that ascend: which elements they have, and how often, determines them.
use Rattle.std.proofs.Common.{All, ◌≡◌, ℕ, zero, suc, ◌+◌, ◌≤◌, ◌<◌, Bool, true, false, cond, List, [], ◌∷◌, length, map, slice_index_or, sum_by, refl, sym, ap, ◌∙◌, arith}
use Rattle.std.proofs.lemmas.List.Elements.{All-nil, All-cons, All-head, All-tail}
use Rattle.std.proofs.lemmas.List.Sums.{sum_by-cons}
use Rattle.std.proofs.lemmas.List.Sorted.{ranks_by, sorted_far}
use Rattle.std.specs.List.Sorted.{IsSorted}
use Rattle.std.specs.Cmp.{IsTotalOrder, tied_itself}
use Rattle.std.specs.FinMap.{IsAntisymmetric}
use Rattle.std.specs.Ordering.{is_lt, is_gt, ordering_reverse}
use Rattle.std.specs.declared.cmp.Ordering.{Ordering}
use Rattle.std.specs.declared.cmp.Ordering.TheVariants.{Less, Equal, Greater}

turned : (r : Ordering) → is_lt r ≡ is_gt (ordering_reverse r)
turned Less = refl
turned Equal = refl
turned Greater = refl

none_counted : (b : Bool) → cond {A = ℕ} b 1 0 ≡ 0 → b ≡ false
none_counted true e = absurd (omega arith)
none_counted false e = refl

tied : (r : Ordering) → is_gt r ≡ false → is_gt (ordering_reverse r) ≡ false → r ≡ Equal
tied Less h k = absurd (cc)
tied Equal h k = refl
tied Greater h k = absurd (cc)

module _ {K : Type 0} (R : K → K → Ordering) where
  abbrev pub IsUpto : K → K → Type 0
  IsUpto x y = is_gt (R x y) ≡ false

  -- no element is greater than one after it
  abbrev pub Ascends : List K → Type 0
  Ascends [] = Unit {0}
  Ascends (x ∷ xs) = All (IsUpto x) xs × Ascends xs

  -- 1 for what is less than x
  abbrev is_below : K → K → ℕ
  is_below x y = cond (is_gt (R x y)) 1 0

  none_below : (x : K) (ys : List K) → All (IsUpto x) ys → sum_by (is_below x) ys ≡ 0
  none_below x [] least = refl
  none_below x (y ∷ ys) least =
      let first : is_below x y ≡ 0 = ap (λ b. cond b 1 0) {y = false} (All-head (IsUpto x) y ys least) in
      omega (arith, sum_by-cons (is_below x) y ys, first, none_below x ys (All-tail (IsUpto x) y ys least))

  module _ (total : IsTotalOrder R) where
    -- the first of an ascending list is not greater than the first of another list with the same elements
    first_upto : (x y : K) (xs ys : List K) → Ascends (x ∷ xs) → ((f : K → ℕ) → sum_by f (y ∷ ys) ≡ sum_by f (x ∷ xs)) → IsUpto x y
    first_upto x y xs ys up same =
        let none : sum_by (is_below x) (x ∷ xs) ≡ 0 = none_below x (x ∷ xs) (All-cons (IsUpto x) x xs (ap is_gt (tied_itself total x)) up.0) in
        let one : is_below x y ≡ 0 = omega (arith, none, same (is_below x), sum_by-cons (is_below x) y ys) in
        none_counted (is_gt (R x y)) one

    module _ (exact : IsAntisymmetric R) where
      same_first : (x y : K) (xs ys : List K) → Ascends (x ∷ xs) → Ascends (y ∷ ys) → ((f : K → ℕ) → sum_by f (y ∷ ys) ≡ sum_by f (x ∷ xs)) → x ≡ y
      same_first x y xs ys up up' same =
          let back : is_gt (R y x) ≡ false = first_upto y x ys xs up' (λ f. sym (same f)) in
          exact x y (tied (R x y) (first_upto x y xs ys up same) (ap is_gt (sym (total.antisymm y x)) ∙ back))

      -- two ascending lists with the same elements are equal
      pub ascending_determined : (xs ys : List K) → Ascends xs → Ascends ys → ((f : K → ℕ) → sum_by f ys ≡ sum_by f xs) → xs ≡ ys
      ascending_determined [] [] up up' same = refl
      ascending_determined [] (y ∷ ys) up up' same = absurd (omega (arith, same (λ _. 1), sum_by-cons (λ _. 1) y ys))
      ascending_determined (x ∷ xs) [] up up' same = absurd (omega (arith, same (λ _. 1), sum_by-cons (λ _. 1) x xs))
      ascending_determined (x ∷ xs) (y ∷ ys) up up' same =
          let first : x ≡ y = same_first x y xs ys up up' same in
          let rest : (f : K → ℕ) → sum_by f ys ≡ sum_by f xs = λ f. omega (arith, same f, ap f first, sum_by-cons f x xs, sum_by-cons f y ys) in
          λ i. first i ∷ ascending_determined xs ys up.1 up'.1 rest i

    from_far : (xs : List K) → ((i j : ℕ) (d : K) → i ≤ j → j < length xs → is_lt (R (slice_index_or xs j d) (slice_index_or xs i d)) ≡ false) → Ascends xs
    from_far [] far = tt
    from_far (x ∷ xs) far =
        let upto : All (IsUpto x) xs = λ k d in'.
        ap is_gt (total.antisymm x (slice_index_or xs k d)) ∙ sym (turned (R (slice_index_or xs k d) x)) ∙ far zero (suc k) d (omega arith) (omega arith) in
        (upto, from_far xs (λ i j d le in'. far (suc i) (suc j) d (omega arith) (omega arith)))

    -- what a sort leaves ascends
    pub Ascends-from_sort : (xs : List K) → IsSorted R xs → Ascends xs
    Ascends-from_sort xs up = from_far xs (sorted_far (λ x y. is_lt (R x y)) (ranks_by total (λ x. x)) xs up)

    -- no element of an ascending list is less than the one before it
    pub IsSorted-from_ascends : (xs : List K) → Ascends xs → IsSorted R xs
    IsSorted-from_ascends [] up k d low inside = absurd (omega arith)
    IsSorted-from_ascends (x ∷ xs) up zero d low inside =
        let y = slice_index_or xs 0 d in
        turned (R y x) ∙ sym (ap is_gt (total.antisymm x y)) ∙ up.0 0 d (omega arith)
    IsSorted-from_ascends (x ∷ xs) up (suc k) d low inside =
        let next : suc k + 1 ≡ suc (k + 1) = omega arith in
        rw next (IsSorted-from_ascends xs up.1 k d (omega arith) (omega arith))

-- what stands for elements ascends as they do, where each two of them compare alike
module _ {K L : Type 0} (R : K → K → Ordering) (S : L → L → Ordering) (g : K → L) (P : K → Type 0) (keeps : (x y : K) → P x → P y → IsUpto R x y → IsUpto S (g x) (g y)) where
  All-upto : (x : K) (xs : List K) → P x → All P xs → All (IsUpto R x) xs → All (IsUpto S (g x)) (map g xs)
  All-upto x [] one each least = All-nil (IsUpto S (g x))
  All-upto x (y ∷ xs) one each least =
      All-cons (IsUpto S (g x)) (g y) (map g xs) (keeps x y one (All-head P y xs each) (All-head (IsUpto R x) y xs least)) (All-upto x xs one (All-tail P y xs each) (All-tail (IsUpto R x) y xs least))

  pub Ascends-map : (xs : List K) → Ascends R xs → All P xs → Ascends S (map g xs)
  Ascends-map [] up each = tt
  Ascends-map (x ∷ xs) up each = (All-upto x xs (All-head P x xs each) (All-tail P x xs each) up.0, Ascends-map xs up.1 (All-tail P x xs each))
