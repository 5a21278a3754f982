-- Rows compare as their first words do, unless these tie.
use Rattle.std.proofs.Common.{◌≡◌, ℕ, zero, suc, ◌<◌, [], ◌∷◌, take, refl, sym, ap, ◌∙◌, arith}
use Rattle.std.proofs.lemmas.Int.{ints}
use Rattle.std.specs.Prelude.{ℤ, ◌≤ℤ◌, ◌<ℤ◌, ◌+ℤ◌, ◌-ℤ◌, pos, negsuc, unsigned_abs}
use Rattle.std.specs.Cmp.{int_ranks, int_cmp_is, int_cmp_total}
use Rattle.std.specs.Ordering.{MatchOrdering, int_cmp, ordering_then, ordering_reverse}
use Rattle.std.specs.declared.cmp.Ordering.{Ordering}
use Rattle.std.specs.declared.cmp.Ordering.TheVariants.{Less, Equal, Greater}
use Rattle.result_text.specs.Rows.{WordRow}
use Rattle.sql_values.specs.Words.{null_word}
use Rattle.result_text.specs.Order.{word_row_cmp}
use Rattle.result_text.specs.SortKey.{word_at, key_of, IsSortKey}

-- what the first comparison tells apart stays so
told_apart : (first rest : Ordering) → ¬ (first ≡ Equal) → first ≡ ordering_then first rest
told_apart Less rest differs = refl
told_apart Equal rest differs = absurd (differs refl)
told_apart Greater rest differs = refl

least_first : (word : ℤ) → null_word ≤ℤ word → ¬ (int_cmp null_word word ≡ Equal) → int_cmp null_word word ≡ Less
least_first word least =
    elim (int_cmp null_word word) as (λ r. MatchOrdering r (null_word <ℤ word) (null_word ≡ word) (word <ℤ null_word) → ¬ (r ≡ Equal) → r ≡ Less) [
      | Less ↦ λ is differs. refl
      | Equal ↦ λ is differs. absurd (differs refl)
      | Greater ↦ λ is differs. absurd (omega (arith, ints))
    ] (int_ranks null_word word)

least_last : (word : ℤ) → null_word ≤ℤ word → ¬ (int_cmp word null_word ≡ Equal) → int_cmp word null_word ≡ Greater
least_last word least differs =
    let turned : int_cmp word null_word ≡ ordering_reverse (int_cmp null_word word) = int_cmp_total.antisymm word null_word in
    turned ∙ ap ordering_reverse (least_first word least (λ tie. differs (turned ∙ ap ordering_reverse tie)))

by_first : (xs ys : WordRow) → null_word ≤ℤ word_at 0 xs → null_word ≤ℤ word_at 0 ys →
    ¬ (int_cmp (word_at 0 xs) (word_at 0 ys) ≡ Equal) → int_cmp (word_at 0 xs) (word_at 0 ys) ≡ word_row_cmp xs ys
by_first [] [] left right differs = absurd (differs refl)
by_first [] (y ∷ ys) left right differs = least_first y right differs
by_first (x ∷ xs) [] left right differs = least_last x left differs
by_first (x ∷ xs) (y ∷ ys) left right differs = told_apart (int_cmp x y) (word_row_cmp xs ys) differs

by_second : (xs ys : WordRow) → int_cmp (word_at 0 xs) (word_at 0 ys) ≡ Equal → null_word ≤ℤ word_at 1 xs → null_word ≤ℤ word_at 1 ys →
    ¬ (int_cmp (word_at 1 xs) (word_at 1 ys) ≡ Equal) → int_cmp (word_at 1 xs) (word_at 1 ys) ≡ word_row_cmp xs ys
by_second [] [] tie left right differs = absurd (differs refl)
by_second [] (y ∷ []) tie left right differs = absurd (differs refl)
by_second [] (y ∷ z ∷ ys) tie left right differs = least_first z right differs
by_second (x ∷ []) [] tie left right differs = absurd (differs refl)
by_second (x ∷ z ∷ xs) [] tie left right differs = least_last z left differs
by_second (x ∷ xs) (y ∷ ys) tie left right differs =
    by_first xs ys left right differs ∙ ap (λ r. ordering_then r (word_row_cmp xs ys)) (sym tie)

less_not_equal : ¬ (Less ≡ Equal)
less_not_equal same = cc same

greater_not_equal : ¬ (Greater ≡ Equal)
greater_not_equal same = cc same

-- keys compare as the first words do, and where these tie as the second ones
keys_rank : (a b c d : ℤ) → null_word ≤ℤ b → b <ℤ pos 9223372036854775808 → null_word ≤ℤ d → d <ℤ pos 9223372036854775808 →
    int_cmp (key_of a b) (key_of c d) ≡ ordering_then (int_cmp a c) (int_cmp b d)
keys_rank a b c d low high low' high' =
    sym (int_cmp_is (key_of a b) (key_of c d) (ordering_then (int_cmp a c) (int_cmp b d))
    (elim (int_cmp a c) as (λ r. MatchOrdering r (a <ℤ c) (a ≡ c) (c <ℤ a) → MatchOrdering (ordering_then r (int_cmp b d)) (key_of a b <ℤ key_of c d) (key_of a b ≡ key_of c d) (key_of c d <ℤ key_of a b)) [
      | Less ↦ λ is. omega (arith, ints)
      | Equal ↦ λ is. elim (int_cmp b d) as (λ r. MatchOrdering r (b <ℤ d) (b ≡ d) (d <ℤ b) → MatchOrdering r (key_of a b <ℤ key_of c d) (key_of a b ≡ key_of c d) (key_of c d <ℤ key_of a b)) [
        | Less ↦ λ then. omega (arith, ints)
        | Equal ↦ λ then. omega (arith, ints)
        | Greater ↦ λ then. omega (arith, ints)
      ] (int_ranks b d)
      | Greater ↦ λ is. omega (arith, ints)
    ] (int_ranks a c)))

words_decide : (xs ys : WordRow) → null_word ≤ℤ word_at 0 xs → null_word ≤ℤ word_at 0 ys → null_word ≤ℤ word_at 1 xs → null_word ≤ℤ word_at 1 ys →
    (first : Ordering) → int_cmp (word_at 0 xs) (word_at 0 ys) ≡ first →
    ¬ (ordering_then first (int_cmp (word_at 1 xs) (word_at 1 ys)) ≡ Equal) → ordering_then first (int_cmp (word_at 1 xs) (word_at 1 ys)) ≡ word_row_cmp xs ys
words_decide xs ys low low' next next' Less is differs = sym is ∙ by_first xs ys low low' (λ tie. less_not_equal (sym is ∙ tie))
words_decide xs ys low low' next next' Equal is differs = by_second xs ys is next next' differs
words_decide xs ys low low' next next' Greater is differs = sym is ∙ by_first xs ys low low' (λ tie. greater_not_equal (sym is ∙ tie))

-- keys that differ decide
pub key_decides : {k l : ℤ} {xs ys : WordRow} → IsSortKey k xs → IsSortKey l ys → ¬ (int_cmp k l ≡ Equal) → int_cmp k l ≡ word_row_cmp xs ys
key_decides {k} {l} {xs} {ys} p q differs =
    let same : int_cmp k l ≡ int_cmp (key_of (word_at 0 xs) (word_at 1 xs)) (key_of (word_at 0 ys) (word_at 1 ys)) = λ i. int_cmp (p.is i) (q.is i) in
    let ranks = same ∙ keys_rank (word_at 0 xs) (word_at 1 xs) (word_at 0 ys) (word_at 1 ys) p.low_second p.high_second q.low_second q.high_second in
    ranks ∙ words_decide xs ys p.low_first q.low_first p.low_second q.low_second (int_cmp (word_at 0 xs) (word_at 0 ys)) refl (λ tie. differs (ranks ∙ tie))

word_at-take : (place count : ℕ) (row : WordRow) → place < count → word_at place (take count row) ≡ word_at place row
word_at-take place zero row below = absurd (omega arith)
word_at-take place (suc count) [] below = refl
word_at-take zero (suc count) (word ∷ row) below = refl
word_at-take (suc place) (suc count) (word ∷ row) below = word_at-take place count row (omega arith)

-- rows that begin with the same two words have the same key
pub key_same : {k l : ℤ} {xs ys : WordRow} → IsSortKey k xs → IsSortKey l ys → (count : ℕ) → 1 < count → take count xs ≡ take count ys → k ≡ l
key_same {k} {l} {xs} {ys} p q count two same =
    let at : (place : ℕ) → place < count → word_at place xs ≡ word_at place ys = λ place below.
    sym (word_at-take place count xs below) ∙ ap (word_at place) same ∙ word_at-take place count ys below in
    let first : word_at 0 xs ≡ word_at 0 ys = at 0 (omega arith) in
    let second : word_at 1 xs ≡ word_at 1 ys = at 1 two in
    p.is ∙ (λ i. key_of (first i) (second i)) ∙ sym q.is

abs_below : (z : ℤ) (n : ℕ) → z <ℤ pos n → pos 0 <ℤ (pos n +ℤ z) → unsigned_abs z < n
abs_below (pos a) n less more = omega (arith, ints)
abs_below (negsuc a) n less more = omega (arith, ints)

-- the keys of rows that begin with the same word are near each other
pub key_near : {k l : ℤ} {xs ys : WordRow} → IsSortKey k xs → IsSortKey l ys → (count : ℕ) → 0 < count → take count xs ≡ take count ys → unsigned_abs (k -ℤ l) < 18446744073709551616
key_near {k} {l} {xs} {ys} p q count some same =
    let first : word_at 0 xs ≡ word_at 0 ys = sym (word_at-take 0 count xs some) ∙ ap (word_at 0) same ∙ word_at-take 0 count ys some in
    let left = p.is in
    let right = q.is in
    let low = p.low_second in
    let high = p.high_second in
    let low' = q.low_second in
    let high' = q.high_second in
    abs_below (k -ℤ l) 18446744073709551616 (omega (arith, ints)) (omega (arith, ints))
