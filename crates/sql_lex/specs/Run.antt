-- Bytes that pass one test, as far as they go.
use Rattle.std.specs.Prelude.{ℕ, ◌<◌, ◌≤◌, ◌==◌, not, Bool, List, length, slice_index, IsTrue}
use Rattle.std.specs.Bool.{IsFalse}
use Rattle.std.specs.Char.{is_ascii_digit}
use Rattle.sql_lex.specs.Bytes.{is_word_byte}
use Rattle.sql_lex.specs.declared.byte.Run.{Run}
use Rattle.sql_lex.specs.declared.byte.Run.TheVariants.{Comment, Word, Number}

-- the test of a comment's, a word's and a number's bytes: a comment goes on with any byte but a line feed
abbrev pub belongs : Run → ℕ → Bool
belongs Comment b = not (b == 10)
belongs Word b = is_word_byte b
belongs Number b = is_ascii_digit b

-- the bytes from `start` up to `end` pass, and the next one doesn't, where there is one
pub record IsRun (passes : ℕ → Bool) (script : List ℕ) (start end : ℕ) : Type 0 where
  pub in_order : start ≤ end
  pub in_script : end ≤ length script
  pub inside : (k : ℕ) → start ≤ k → k < end → IsTrue (passes (slice_index script k))
  pub stops : end < length script → IsFalse (passes (slice_index script end))
