-- A dictionary: a list of different texts. The code of a text is its place, from 0.
use Rattle.std.specs.Prelude.{◌≡◌, ℕ, Bool, ℤ, pos, negsuc, List, [], ◌∷◌, ◌++◌, fold, Option, None, option_map, slice_get, position, if◌then◌else◌}
use Rattle.std.specs.List.{list_any}
use Rattle.std.specs.Str.{bytes_eq}

-- whether the text is in the list
abbrev pub has_text : List (List ℕ) → List ℕ → Bool
has_text texts text = list_any (bytes_eq text) texts

-- the code of a text, where it is in the list
abbrev pub code_of : List (List ℕ) → List ℕ → Option ℤ
code_of texts text = option_map pos (position (bytes_eq text) texts)

-- the text of a code, where there is one
abbrev pub text_of : List (List ℕ) → ℤ → Option (List ℕ)
text_of texts (pos place) = slice_get texts place
text_of texts (negsuc _) = None

-- a text that isn't there comes to the end
abbrev pub with_text : List (List ℕ) → List ℕ → List (List ℕ)
with_text texts text = if has_text texts text then texts else texts ++ text ∷ []

-- texts that aren't there come to the end, one after another
abbrev pub with_texts : List (List ℕ) → List (List ℕ) → List (List ℕ)
with_texts texts more = fold with_text texts more

-- the new texts begin with the old ones
abbrev pub Begins : List (List ℕ) → List (List ℕ) → Type 0
Begins old new = (more : List (List ℕ)) × (new ≡ old ++ more)
