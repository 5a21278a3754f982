-- Which word stands for which value, given the list of texts.
use Rattle.std.specs.Prelude.{◌≡◌, ℕ, ◌-◌, ◌^◌, ◌<◌, ℤ, pos, negsuc, List, [], length, unwrap_or, if◌then◌else◌, ⊤}
use Rattle.std.specs.List.{position_or_len}
use Rattle.std.specs.Ordering.{int_eq}
use Rattle.std.specs.Str.{bytes_eq}
use Rattle.sql_values.specs.declared.value.Value.{Value}
use Rattle.sql_values.specs.declared.value.Value.TheVariants as value
use Rattle.sql_values.specs.declared.column.ColumnType.{ColumnType}
use Rattle.sql_values.specs.declared.column.ColumnType.TheVariants.{Integer, Varchar}
use Rattle.sql_values.specs.Dictionary.{text_of}

-- the word that stands for NULL, -2^63, which is no INTEGER: the least of these is the negation of the greatest
abbrev pub null_word : ℤ
null_word = negsuc (2 ^ 63 - 1)

-- the word of a value: a number is its own word, and the word of a text is its place among the texts
abbrev pub word_of : List (List ℕ) → Value → ℤ
word_of texts value.Null = null_word
word_of texts (value.Int number) = number
word_of texts (value.Text text) = pos (position_or_len (bytes_eq text) texts)

-- what a word other than NULL's means in a column of this kind
abbrev pub word_meaning : List (List ℕ) → ColumnType → ℤ → Value
word_meaning texts Integer word = value.Int word
word_meaning texts (Varchar _) word = value.Text (unwrap_or (text_of texts word) [])

-- the value for which a word stands in a column of this kind
abbrev pub value_of : List (List ℕ) → ColumnType → ℤ → Value
value_of texts kind word = if int_eq word null_word then value.Null else word_meaning texts kind word

-- a place in the list of texts, or NULL's word
abbrev pub IsTextWord : List (List ℕ) → ℤ → Type 0
IsTextWord texts (pos place) = place < length texts
IsTextWord texts (negsuc n) = negsuc n ≡ null_word

-- the word may stand in a column of this kind: in an INTEGER column any may
abbrev pub IsWord : List (List ℕ) → ColumnType → ℤ → Type 0
IsWord texts Integer word = ⊤
IsWord texts (Varchar _) word = IsTextWord texts word
