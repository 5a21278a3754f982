-- A text, cut at its first `=`.
use Rattle.std.proofs.Common.{◌≡◌, ◌∙◌, ◌||◌, ℕ, suc, ◌+◌, Bool, cond, true, false, true≢false, not, List, [], ◌∷◌, ◌++◌, take, drop, refl, sym, ap, ap₂, arith}
use Rattle.std.specs.List.{list_any, before_first, after_first, position_or_len}
use Rattle.std.proofs.lemmas.Bool.Decides.{nat_tests}
use Rattle.command_line.specs.Words.{is_equals}

more : (n : ℕ) → 1 + n ≡ suc n
more n = omega arith

pub no_equals : (text : List ℕ) → list_any is_equals text ≡ false → before_first is_equals text ≡ text
no_equals [] e = refl
no_equals (byte ∷ rest) e = go (is_equals byte) e (no_equals rest)
  where
    go : (b : Bool) → (b || list_any is_equals rest) ≡ false → (list_any is_equals rest ≡ false → before_first is_equals rest ≡ rest)
        → take (cond (not b) (1 + position_or_len is_equals rest) 0) (byte ∷ rest) ≡ byte ∷ rest
    go true e same = absurd (true≢false e)
    go false e same = ap (λ n. take n (byte ∷ rest)) (more _) ∙ ap (λ t. byte ∷ t) (same e)

pub behind_hyphens : (text : List ℕ) → before_first is_equals (45 ∷ 45 ∷ text) ≡ 45 ∷ 45 ∷ before_first is_equals text
behind_hyphens text =
    let both_more : 1 + (1 + position_or_len is_equals text) ≡ suc (suc (position_or_len is_equals text)) = omega arith in
    ap (λ n. take n (45 ∷ 45 ∷ text)) both_more

pub cut_at_equals : (text : List ℕ) → list_any is_equals text ≡ true → text ≡ before_first is_equals text ++ 61 ∷ after_first is_equals text
cut_at_equals [] e = cc
cut_at_equals (byte ∷ rest) e = go (is_equals byte) refl e (cut_at_equals rest)
  where
    go : (b : Bool) → is_equals byte ≡ b → (b || list_any is_equals rest) ≡ true → (list_any is_equals rest ≡ true → rest ≡ before_first is_equals rest ++ 61 ∷ after_first is_equals rest)
        → byte ∷ rest ≡ take (cond (not b) (1 + position_or_len is_equals rest) 0) (byte ∷ rest) ++ 61 ∷ drop (cond (not b) (1 + position_or_len is_equals rest) 0 + 1) (byte ∷ rest)
    go true is _ _ = let equal : byte ≡ 61 = grind (arith, nat_tests) in ap (λ b. b ∷ rest) equal
    go false _ e cut =
        let n = position_or_len is_equals rest in
        let next : suc (n + 1) ≡ 1 + n + 1 = omega arith in
        ap (λ t. byte ∷ t) (cut e) ∙ ap₂ (λ a b. take a (byte ∷ rest) ++ 61 ∷ drop b (byte ∷ rest)) (sym (more n)) next
