-- The texts that stand in rows, and the places of their codes among these texts in ascending order.
use Rattle.std.specs.Prelude.{◌≡◌, ◌≢◌, ◌++◌, ◌≤ℤ◌, ℕ, ℤ, pos, List, [], ◌∷◌, All, Contains, Some, length, map, if◌then◌else◌}
use Rattle.std.specs.List.{AllZip}
use Rattle.std.specs.declared.cmp.Ordering.{Ordering}
use Rattle.std.specs.Ordering.{int_cmp, int_eq, ordering_then}
use Rattle.sql_values.specs.declared.column.ColumnType.{ColumnType}
use Rattle.sql_values.specs.declared.column.ColumnType.TheVariants.{Integer, Varchar}
use Rattle.sql_values.specs.Dictionary.{text_of}
use Rattle.sql_values.specs.Words.{null_word}
use Rattle.result_text.specs.Ranks.{IsRankedWord}
use Rattle.result_text.specs.Rows.{WordRow}
use Rattle.sql_values.specs.Stored.{values_of}
use Rattle.result_text.specs.declared.places.CodedText.{CodedText}
use Rattle.result_text.specs.declared.places.Placed.{Placed}

-- the code of a word's text, where it stands for a text
abbrev pub text_code : ColumnType → ℤ → List ℤ
text_code Integer word = []
text_code (Varchar _) word = if int_eq word null_word then [] else word ∷ []

-- the codes of a row's texts
abbrev pub text_codes : List ColumnType → WordRow → List ℤ
text_codes [] words = []
text_codes (kind ∷ kinds) [] = []
text_codes (kind ∷ kinds) (word ∷ words) = text_code kind word ++ text_codes kinds words

-- this is the text of this code
abbrev pub IsCodedText : List (List ℕ) → CodedText → Type 0
IsCodedText texts coded = text_of texts coded.code ≡ Some coded.text

-- the code is the same, and the text stands in this place behind the known ones
abbrev pub HasPlace : List (List ℕ) → List (List ℕ) → CodedText → Placed → Type 0
HasPlace known sorted coded placed = (placed.code ≡ coded.code) × (text_of (known ++ sorted) placed.place ≡ Some coded.text) × (pos (length known) ≤ℤ placed.place)

-- the text of a code stands once more in this place behind the known ones
abbrev pub IsPlaced : List (List ℕ) → List (List ℕ) → Placed → Type 0
IsPlaced known sorted placed = (text_of (known ++ sorted) placed.place ≡ text_of known placed.code) × (pos (length known) ≤ℤ placed.place)

-- how two of them compare
abbrev pub placed_cmp : Placed → Placed → Ordering
placed_cmp a b = ordering_then (int_cmp a.code b.code) (int_cmp a.place b.place)

abbrev pub codes_of : List Placed → List ℤ
codes_of placed = map (λ one. one.code) placed

-- the codes of a row's texts have places
abbrev pub HavePlaces : List Placed → List ColumnType → WordRow → Type 0
HavePlaces placed kinds row = (code : ℤ) → Contains (text_codes kinds row) code → Contains (codes_of placed) code

-- the word of a column, where a text's word becomes the place of its code
abbrev pub IsPlacedWord : List Placed → ColumnType → ℤ → ℤ → Type 0
IsPlacedWord placed Integer word new = new ≡ word
IsPlacedWord placed (Varchar _) word new = (word ≡ null_word → new ≡ null_word) × (word ≢ null_word → Contains placed (record { code = word; place = new }))

-- the same of each word of a row
abbrev pub IsPlacedRow : List Placed → List ColumnType → WordRow → WordRow → Type 0
IsPlacedRow placed [] row new = new ≡ []
IsPlacedRow placed (kind ∷ kinds) [] new = new ≡ []
IsPlacedRow placed (kind ∷ kinds) (word ∷ row) [] = ⊥
IsPlacedRow placed (kind ∷ kinds) (word ∷ row) (first ∷ new) = IsPlacedWord placed kind word first × IsPlacedRow placed kinds row new

-- rows as long as others, which stand for the same values by texts behind the known ones alone
pub record ArePlaced (known sorted : List (List ℕ)) (kinds : List ColumnType) (rows new : List WordRow) : Type 0 where
  pub long : map length new ≡ map length rows
  pub values : map (values_of (known ++ sorted) kinds) new ≡ map (values_of known kinds) rows
  pub words : All (λ row. AllZip (IsRankedWord known sorted) kinds row) new
