-- Ranks, the codes of words above a base, and the words of codes.
use Rattle.std.proofs.Common.{◌≡◌, ◌≢◌, ℕ, zero, suc, ◌+◌, ◌-◌, ◌<◌, ◌≤◌, ap, ◌∙◌, arith}
use Rattle.std.proofs.lemmas.Int.{ints}
use Rattle.sql_values.specs.Words.{null_word}
use Rattle.narrow_columns.specs.Codes.{word_of_rank, rank_of_code, word_of_code, IsWithin}

-- the code of a word that is NULL or above the base stands for it
pub rank_of_code-minus : (base rank : ℕ) → (0 < rank → base < rank) → rank_of_code base (rank - base) ≡ rank
rank_of_code-minus base zero above = let none : 0 - base ≡ 0 = omega arith in ap (rank_of_code base) none
rank_of_code-minus base (suc n) above =
    let low : base < suc n = above (omega arith) in
    let one_up : suc n - base ≡ suc (n - base) = omega arith in
    let sum : base + suc (n - base) ≡ suc n = omega arith in
    ap (rank_of_code base) one_up ∙ sum

-- the ranks of words that a base and a greatest code take
pub ranks-within : (base top rank : ℕ) → IsWithin (word_of_rank (base + 1)) (word_of_rank (base + top)) (word_of_rank rank)
    → 0 < rank → (base < rank) × (rank ≤ base + top)
ranks-within base top rank within some =
    let known : word_of_rank rank ≢ null_word = λ same. omega (arith, ints) in
    let between = within known in
    (omega (arith, ints, between.0), omega (arith, ints, between.1))

-- the code of a word that a base and a greatest code take
pub code-of-rank : (base top rank : ℕ) → IsWithin (word_of_rank (base + 1)) (word_of_rank (base + top)) (word_of_rank rank)
    → (rank - base ≤ top) × (word_of_code base (rank - base) ≡ word_of_rank rank)
code-of-rank base top rank within =
    let between = ranks-within base top rank within in
    let same = rank_of_code-minus base rank (λ some. (between some).0) in
    (fits rank (λ some. (between some).1), ap word_of_rank same)
  where
    fits : (rank : ℕ) → (0 < rank → rank ≤ base + top) → rank - base ≤ top
    fits zero high = omega arith
    fits (suc n) high = let le = high (omega arith) in omega arith

-- a code above another base stands for the same word
pub rank_of_code-moved : (base old code : ℕ) → base ≤ old → rank_of_code base (rank_of_code old code - base) ≡ rank_of_code old code
rank_of_code-moved base old zero low = rank_of_code-minus base 0 (λ some. absurd (omega arith))
rank_of_code-moved base old (suc n) low = rank_of_code-minus base (old + suc n) (λ some. omega arith)
