-- Rows of words.
use Rattle.std.specs.Prelude.{ℤ, ◌≤ℤ◌, List, All, flat_map}
use Rattle.sql_values.specs.Words.{null_word}

-- a row of words has a word in each column
abbrev pub WordRow : Type 0
WordRow = List ℤ

-- the words of rows, one row after the other
abbrev pub words_of : List WordRow → List ℤ
words_of rows = flat_map (λ row. row) rows

-- no word is less than that of NULL
abbrev pub AreNumbers : WordRow → Type 0
AreNumbers words = All (λ word. null_word ≤ℤ word) words
