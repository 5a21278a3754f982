-- Texts that ascend, and the words that stand for them behind the texts of a dictionary.
use Rattle.std.specs.Prelude.{◌≡◌, ◌≤◌, ◌<◌, ◌++◌, ℕ, ℤ, pos, negsuc, List, length, ⊤}
use Rattle.std.specs.List.{AllPairs}
use Rattle.std.specs.Ordering.{nat_cmp}
use Rattle.std.specs.Cmp.Lexicographic.{slice_cmp}
use Rattle.std.specs.declared.cmp.Ordering.TheVariants.{Less}
use Rattle.sql_values.specs.declared.column.ColumnType.{ColumnType}
use Rattle.sql_values.specs.declared.column.ColumnType.TheVariants.{Integer, Varchar}
use Rattle.sql_values.specs.Words.{null_word}

-- each text is less than those after it
abbrev pub AreAscending : List (List ℕ) → Type 0
AreAscending texts = AllPairs (λ a b. slice_cmp nat_cmp a b ≡ Less) texts

-- a number, the word of NULL, or the place of a text that stands behind the known ones
abbrev pub IsRankedWord : List (List ℕ) → List (List ℕ) → ColumnType → ℤ → Type 0
IsRankedWord known sorted Integer word = ⊤
IsRankedWord known sorted (Varchar _) (pos place) = (length known ≤ place) × (place < length (known ++ sorted))
IsRankedWord known sorted (Varchar _) (negsuc n) = negsuc n ≡ null_word
