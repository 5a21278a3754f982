-- The bytes that tokens and comments are made of, as tests.
use Rattle.std.specs.Prelude.{ℕ, Bool, ◌==◌, ◌||◌, ◌&&◌, codes}
use Rattle.std.specs.List.{list_any}
use Rattle.std.specs.Char.{is_ascii_alphabetic, is_ascii_alphanumeric}

-- space, tab, line feed, carriage return
abbrev pub is_white : ℕ → Bool
is_white b = (b == 32) || (b == 9) || (b == 10) || (b == 13)

-- what a word begins with: a letter
abbrev pub starts_word : ℕ → Bool
starts_word b = is_ascii_alphabetic b

-- what a word goes on with: a letter, a digit or `_`
abbrev pub is_word_byte : ℕ → Bool
is_word_byte b = is_ascii_alphanumeric b || (b == 95)

-- the signs
abbrev pub is_sign : ℕ → Bool
is_sign b = list_any (λ sign. b == sign) (codes "(),.;*+-?")

-- the comparisons of one byte: = < >
abbrev pub starts_comparison : ℕ → Bool
starts_comparison b = list_any (λ first. b == first) (codes "=<>")

-- the comparisons of two bytes: <> <= >=
abbrev pub is_second : ℕ → ℕ → Bool
is_second b c = ((b == 60) && ((c == 62) || (c == 61))) || ((b == 62) && (c == 61))
