-- The limits of tokens.
use Rattle.std.specs.Prelude.{ℕ}

-- the most bytes that a word has
abbrev pub max_word_bytes : ℕ
max_word_bytes = 128

-- the greatest value that a number has: the greatest INTEGER, 2^63 - 1
abbrev pub max_number : ℕ
max_number = 9223372036854775807
