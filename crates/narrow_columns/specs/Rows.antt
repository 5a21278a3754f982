-- The words of one column in rows that follow one another.
use Rattle.std.specs.Prelude.{ℕ, zero, suc, ℤ, pos, ◌+◌, ◌*◌, ◌<◌, ◌≤◌, List, [], ◌∷◌, drop, length, slice_index_or, if◌then◌else◌}
use Rattle.std.specs.Int.{int_min}
use Rattle.std.specs.Ordering.{int_eq}
use Rattle.sql_values.specs.Words.{null_word}
use Rattle.narrow_columns.specs.declared.rows.ColumnPlace.{ColumnPlace}

-- the word at one place of each of n rows of one width
abbrev pub words_of_column : (width place n : ℕ) → List ℤ → List ℤ
words_of_column width place zero words = []
words_of_column width place (suc n) words =
    slice_index_or words place (pos 0) ∷ words_of_column width place n (drop width words)

-- the words of a column at this place of these rows
abbrev pub column_words : ColumnPlace → List ℤ → List ℤ
column_words at words = words_of_column at.width at.place at.count words

-- the word of a column in one row
abbrev pub row_word : ColumnPlace → (row : ℕ) → List ℤ → ℤ
row_word at row words = slice_index_or words (row * at.width + at.place) (pos 0)

-- each of the rows is there, and has a word at this place
pub record IsInRows (at : ColumnPlace) (words : List ℤ) : Type 0 where
  pub in_row : at.place < at.width
  pub whole_rows : at.count * at.width ≤ length words

-- the lesser of two words, where the second isn't NULL
abbrev pub least_word : (least word : ℤ) → ℤ
least_word least word = if int_eq word null_word then least else int_min least word
