-- Rows that are sorted by their words.
use Rattle.std.specs.Prelude.{◌≡◌, ℤ, List, All, IsPermutation, IsSorted, length, map}
use Rattle.result_text.specs.Order.{word_row_cmp}
use Rattle.result_text.specs.Rows.{WordRow, AreNumbers, words_of}

-- the rows of these words, as long as others, sorted as numbers
pub record AreSorted (words : List ℤ) (like sorted : List WordRow) : Type 0 where
  pub rows : List WordRow
  pub is : words_of rows ≡ words
  pub long : map length rows ≡ map length like
  pub moved : IsPermutation rows sorted
  pub ordered : IsSorted word_row_cmp sorted
  pub numbers : All AreNumbers rows
