-- Texts compare as their first bytes do, unless these tie.
use Rattle.std.proofs.Common.{◌≡◌, ◌≢◌, ℕ, zero, suc, ◌<◌, List, [], ◌∷◌, get_or, inl, inr, refl, sym, ap, ◌∙◌, arith}
use Rattle.std.proofs.lemmas.Bool.{cases_lt}
use Rattle.std.proofs.lemmas.Bool.Decides.{nat_tests}
use Rattle.std.proofs.lemmas.Cmp.{nat_list_cmp_total}
use Rattle.std.specs.Cmp.Lexicographic.{slice_cmp}
use Rattle.std.specs.Ordering.{nat_cmp, ordering_then, ordering_reverse}
use Rattle.std.specs.declared.cmp.Ordering.TheVariants.{Less, Equal, Greater}
use Rattle.result_text.specs.FirstBytes.{first_bytes, IsFirst}

abbrev AreBytes : List ℕ → Type 0
AreBytes text = (k : ℕ) → get_or text k 0 < 256

below : (a b : ℕ) → a < b → nat_cmp a b ≡ Less
below a b less = grind (arith, nat_tests)

above : (a b : ℕ) → b < a → nat_cmp a b ≡ Greater
above a b less = grind (arith, nat_tests)

tie : (a b : ℕ) → a ≡ b → nat_cmp a b ≡ Equal
tie a b same = grind (arith, nat_tests)

-- the first byte that differs decides
differ_at : (n : ℕ) (s t : List ℕ) → ((k : ℕ) → k < n → get_or s k 0 ≡ get_or t k 0) → get_or s n 0 < get_or t n 0 → slice_cmp nat_cmp s t ≡ Less
differ_at n s [] agree less = absurd (omega arith)
differ_at n [] (y ∷ t) agree less = refl
differ_at zero (x ∷ s) (y ∷ t) agree less = ap (λ r. ordering_then r (slice_cmp nat_cmp s t)) (below x y less)
differ_at (suc n) (x ∷ s) (y ∷ t) agree less =
    let first : x ≡ y = agree zero (omega arith) in
    ap (λ r. ordering_then r (slice_cmp nat_cmp s t)) (tie x y first) ∙ differ_at n s t (λ k inside. agree (suc k) (omega arith)) less

same_bytes : (n : ℕ) (s t : List ℕ) → AreBytes s → AreBytes t → first_bytes n s ≡ first_bytes n t → (k : ℕ) → k < n → get_or s k 0 ≡ get_or t k 0
same_bytes zero s t small small' same k inside = absurd (omega arith)
same_bytes (suc n) s t small small' same k inside =
    let front : first_bytes n s ≡ first_bytes n t = omega (arith, same, small n, small' n) in
    let last : get_or s n 0 ≡ get_or t n 0 = omega (arith, same, small n, small' n) in
    elim (cases_lt k n) [
      | inl before ↦ same_bytes n s t small small' front k before
      | inr past ↦ let one : n ≡ k = omega arith in ap (λ i. get_or s i 0) (sym one) ∙ last ∙ ap (λ i. get_or t i 0) one
    ]

less_first : (n : ℕ) (s t : List ℕ) → AreBytes s → AreBytes t → first_bytes n s < first_bytes n t → slice_cmp nat_cmp s t ≡ Less
less_first zero s t small small' less = absurd (omega arith)
less_first (suc n) s t small small' less =
    elim (cases_lt (first_bytes n s) (first_bytes n t)) [
      | inl before ↦ less_first n s t small small' before
      | inr past ↦
          let front : first_bytes n s ≡ first_bytes n t = omega (arith, less, small n, small' n, past) in
          let last : get_or s n 0 < get_or t n 0 = omega (arith, less, small n, small' n, past) in
          differ_at n s t (same_bytes n s t small small' front) last
    ]

-- numbers of first bytes that differ decide
pub first_decides : {a b : ℕ} {s t : List ℕ} → IsFirst a s → IsFirst b t → nat_cmp a b ≢ Equal → nat_cmp a b ≡ slice_cmp nat_cmp s t
first_decides {a} {b} {s} {t} p q differs =
    let numbers : nat_cmp a b ≡ nat_cmp (first_bytes 8 s) (first_bytes 8 t) = λ i. nat_cmp (p.is i) (q.is i) in
    elim (cases_lt a b) [
      | inl less ↦ below a b less ∙ sym (less_first 8 s t p.bytes q.bytes (let h : first_bytes 8 s < first_bytes 8 t = omega (arith, p.is, q.is) in h))
      | inr upto ↦ elim (cases_lt b a) [
        | inl less ↦ above a b less ∙ sym (nat_list_cmp_total.antisymm s t ∙ ap ordering_reverse (less_first 8 t s q.bytes p.bytes (let h : first_bytes 8 t < first_bytes 8 s = omega (arith, p.is, q.is) in h)))
        | inr upto' ↦ absurd (differs (tie a b (omega arith)))
      ]
    ]
