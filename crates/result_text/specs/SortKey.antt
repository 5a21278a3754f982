-- The first two words of a row as one number.
use Rattle.std.specs.Prelude.{◌≡◌, ◌≤ℤ◌, ◌<ℤ◌, ◌+ℤ◌, ◌*ℤ◌, pos, ℕ, ℤ, slice_get, unwrap_or}
use Rattle.result_text.specs.Rows.{WordRow}
use Rattle.sql_values.specs.Words.{null_word}

-- the word in this place, and the least one where the row has none
abbrev pub word_at : ℕ → WordRow → ℤ
word_at place row = unwrap_or (slice_get row place) null_word

-- two words as one number, ordered as they are
abbrev pub key_of : ℤ → ℤ → ℤ
key_of first second = first *ℤ pos 18446744073709551616 +ℤ (second +ℤ pos 9223372036854775808)

-- this is the key of the row's first two words, of which none is less than the least, nor the second past the greatest
pub record IsSortKey (key : ℤ) (row : WordRow) : Type 0 where
  pub is : key ≡ key_of (word_at 0 row) (word_at 1 row)
  pub low_first : null_word ≤ℤ word_at 0 row
  pub low_second : null_word ≤ℤ word_at 1 row
  pub high_second : word_at 1 row <ℤ pos 9223372036854775808
