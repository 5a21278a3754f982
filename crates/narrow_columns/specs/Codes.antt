-- Words as numbers: how far a word is above the least one, and the code that a column keeps for it.
use Rattle.std.specs.Prelude.{◌≢◌, ℕ, zero, suc, ℤ, pos, ◌+◌, ◌+ℤ◌, ◌≤ℤ◌, ◌&&◌, Bool, nat_le}
use Rattle.sql_values.specs.Words.{null_word}

-- the word that has so many words below it; that of NULL has none
abbrev pub word_of_rank : ℕ → ℤ
word_of_rank rank = pos rank +ℤ null_word

-- the rank of the word that a code stands for: 0 is NULL, any other is so far above the base
abbrev pub rank_of_code : (base code : ℕ) → ℕ
rank_of_code base zero = 0
rank_of_code base (suc n) = base + suc n

-- the word that a code stands for
abbrev pub word_of_code : (base code : ℕ) → ℤ
word_of_code base code = word_of_rank (rank_of_code base code)

-- whether a code is one of those from one up to another, both included
abbrev pub is_code_among : (least greatest code : ℕ) → Bool
is_code_among least greatest code = nat_le least code && nat_le code greatest

-- the word is NULL, or one of those from the least up to the greatest
abbrev pub IsWithin : (least greatest word : ℤ) → Type 0
IsWithin least greatest word = word ≢ null_word → (least ≤ℤ word) × (word ≤ℤ greatest)
