-- Texts that ascend, and what one more at the end leaves of them.
use Rattle.std.proofs.Common.{Bool, ◌≡◌, ◌≢◌, ℕ, zero, suc, ℤ, pos, negsuc, ◌+◌, ◌-◌, ◌<◌, false, true, List, [], ◌∷◌, ◌++◌, length, get_or, take, slice_get, Option, Some, None, IfSome, inl, inr, refl, sym, ap, ◌∙◌, subst, arith, append_assoc, length-append}
use Rattle.std.proofs.lemmas.Bool.{cases_lt}
use Rattle.std.proofs.lemmas.Cmp.{nat_list_cmp_total}
use Rattle.std.proofs.lemmas.List.{get_or_append_left, get_or-append_right, take_more}
use Rattle.std.proofs.lemmas.Map.Text.{is_eq-slice_cmp}
use Rattle.std.proofs.lemmas.Option.{slice_get-get_or}
use Rattle.std.proofs.lemmas.Slice.Eq.{bytes_eq-Decides}
use Rattle.std.specs.Cmp.{tied_itself}
use Rattle.std.specs.Cmp.Lexicographic.{slice_cmp}
use Rattle.std.specs.Ordering.{nat_cmp, eq_by_cmp, is_eq, is_gt}
use Rattle.std.specs.declared.cmp.Ordering.{Ordering}
use Rattle.std.specs.declared.cmp.Ordering.TheVariants.{Less, Equal, Greater}
use Rattle.sql_values.specs.Dictionary.{text_of, Begins}
use Rattle.result_text.specs.Lists.{last_of}
use Rattle.result_text.specs.Ranks.{AreAscending}

slice_get_end : {X : Type 0} (xs : List X) (x : X) (n : ℕ) → n ≡ length xs → slice_get (xs ++ x ∷ []) n ≡ Some x
slice_get_end [] x zero is = refl
slice_get_end [] x (suc n) is = absurd (omega arith)
slice_get_end (y ∷ xs) x zero is = absurd (omega arith)
slice_get_end (y ∷ xs) x (suc n) is = slice_get_end xs x n (omega arith)

pub last_of-push : {X : Type 0} (xs : List X) (x : X) → last_of (xs ++ x ∷ []) ≡ Some x
last_of-push xs x = slice_get_end xs x (length (xs ++ x ∷ []) - 1) (omega (arith, length-append xs (x ∷ [])))

pub last_of-take : {X : Type 0} (xs : List X) (i : ℕ) (d : X) → i < length xs → last_of (take (i + 1) xs) ≡ Some (get_or xs i d)
last_of-take xs i d below = ap last_of (take_more xs i d below) ∙ last_of-push (take i xs) (get_or xs i d)

slice_get-append : {X : Type 0} (xs more : List X) (n : ℕ) (x : X) → slice_get xs n ≡ Some x → slice_get (xs ++ more) n ≡ Some x
slice_get-append [] more n x is = absurd (cc)
slice_get-append (y ∷ xs) more zero x is = is
slice_get-append (y ∷ xs) more (suc n) x is = slice_get-append xs more n x is

-- a text keeps its place where others come behind it
pub text_of-Begins : (old new : List (List ℕ)) → Begins old new → (place : ℤ) (text : List ℕ) → text_of old place ≡ Some text → text_of new place ≡ Some text
text_of-Begins old new begins (pos n) text is = subst (λ texts. slice_get texts n ≡ Some text) (sym begins.1) (slice_get-append old begins.0 n text is)
text_of-Begins old new begins (negsuc n) text is = is

-- also where all of them stand behind others
pub begins_behind : (known old new : List (List ℕ)) → Begins old new → Begins (known ++ old) (known ++ new)
begins_behind known old new begins = (begins.0, ap (λ texts. known ++ texts) begins.1 ∙ sym (append_assoc known old begins.0))

same_text : (a b : List ℕ) → slice_cmp nat_cmp a b ≡ Equal → a ≡ b
same_text a b e = (bytes_eq-Decides a b).0 (sym (is_eq-slice_cmp a b) ∙ ap is_eq e)

strict : (r : Ordering) → is_gt r ≡ false → r ≢ Equal → r ≡ Less
strict Less not_greater differs = refl
strict Equal not_greater differs = absurd (differs refl)
strict Greater not_greater differs = absurd (cc)

-- a text that is neither less than the last one nor the same is greater
pub last_less : (last : Option (List ℕ)) (text : List ℕ) → IfSome last (λ a. is_gt (slice_cmp nat_cmp a text) ≡ false) → last ≢ Some text → IfSome last (λ a. slice_cmp nat_cmp a text ≡ Less)
last_less None text not_less differs = tt
last_less (Some a) text not_less differs = strict (slice_cmp nat_cmp a text) not_less (λ e. differs (ap Some (same_text a text e)))

module _ (texts : List (List ℕ)) (text : List ℕ) (up : AreAscending texts) (last : IfSome (last_of texts) (λ a. slice_cmp nat_cmp a text ≡ Less)) where
  each_less : (i : ℕ) (d : List ℕ) → i < length texts → slice_cmp nat_cmp (get_or texts i d) text ≡ Less
  each_less i d below =
      let top = length texts - 1 in
      let inside : top < length texts = omega arith in
      let greatest : slice_cmp nat_cmp (get_or texts top d) text ≡ Less = subst (λ o. IfSome o (λ a. slice_cmp nat_cmp a text ≡ Less)) (slice_get-get_or texts top d inside) last in
      elim (cases_lt i top) [
        | inl before ↦ nat_list_cmp_total.trans (get_or texts i d) (get_or texts top d) text (up i top d before inside) greatest
        | inr past ↦ let one : top ≡ i = omega arith in subst (λ k. slice_cmp nat_cmp (get_or texts k d) text ≡ Less) one greatest
      ]

  -- a greater text comes to the end
  pub ascending_push : AreAscending (texts ++ text ∷ [])
  ascending_push i j d less below =
      let size = length-append texts (text ∷ []) in
      let first : i < length texts = omega (arith, size) in
      let left : get_or (texts ++ text ∷ []) i d ≡ get_or texts i d = get_or_append_left texts (text ∷ []) d i first in
      elim (cases_lt j (length texts)) [
        | inl inside ↦ (λ k. slice_cmp nat_cmp (left k) (get_or_append_left texts (text ∷ []) d j inside k)) ∙ up i j d less inside
        | inr past ↦
            let end : j ≡ length texts = omega (arith, size) in
            let none : j - length texts ≡ 0 = omega arith in
            let right : get_or (texts ++ text ∷ []) j d ≡ text = get_or-append_right texts (text ∷ []) (length texts) j d refl past ∙ ap (λ n. get_or (text ∷ []) n d) none in
            (λ k. slice_cmp nat_cmp (left k) (right k)) ∙ each_less i d first
      ]

-- whether a text is the last one, by a test of equality with it
pub is_last : (last : Option (List ℕ)) (a text : List ℕ) (r : Bool) → last ≡ Some a → r ≡ eq_by_cmp (slice_cmp nat_cmp) a text → (r ≡ true → last ≡ Some text) × (last ≡ Some text → r ≡ true)
is_last last a text r at is = (
  λ yes'. at ∙ ap Some ((bytes_eq-Decides a text).0 (sym (is_eq-slice_cmp a text) ∙ sym is ∙ yes')),
  λ there. let same : a ≡ text = cc in is ∙ ap is_eq (subst (λ t. slice_cmp nat_cmp a t ≡ Equal) same (tied_itself nat_list_cmp_total a)),
)
