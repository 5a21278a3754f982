-- The values of words are of the kinds of their columns.
use Rattle.std.proofs.Common.{◌≡◌, ℕ, zero, suc, ℤ, pos, negsuc, ◌<◌, true, List, [], ◌∷◌, length, slice_get, unwrap_or, refl, sym, subst, arith}
use Rattle.std.proofs.lemmas.Grind.{common_steps}
use Rattle.std.proofs.lemmas.Bool.{or_left, or_right}
use Rattle.std.proofs.lemmas.Slice.Eq.{bytes_eq-Decides}
use Rattle.sql_values.specs.declared.column.ColumnType.{ColumnType}
use Rattle.sql_values.specs.declared.column.ColumnType.TheVariants.{Integer, Varchar}
use Rattle.sql_values.specs.Dictionary.{has_text}
use Rattle.sql_values.specs.Words.{value_of, IsWord}
use Rattle.sql_values.specs.Stored.{AreWordsOf, values_of}
use Rattle.sql_values.proofs.Stored.{NULL_is_null}
use Rattle.query_block.specs.Truth.{value_at}
use Rattle.query_block.specs.Blocks.{kind_at}
use Rattle.query_block.specs.Picked.{IsOfKind}

-- the text at a place is in the dictionary
has-own : (texts : List (List ℕ)) (place : ℕ) → place < length texts → has_text texts (unwrap_or (slice_get texts place) []) ≡ true
has-own [] place there = absurd (omega (arith, there))
has-own (x ∷ xs) zero there = or_left _ _ ((bytes_eq-Decides x x).1 refl)
has-own (x ∷ xs) (suc place) there = or_right _ _ (has-own xs place (omega (arith, there)))

-- the value of a word
of-word : (texts : List (List ℕ)) (kind : ColumnType) (word : ℤ) → IsWord texts kind word → IsOfKind texts kind (value_of texts kind word)
of-word texts Integer word is = grind (arith, common_steps)
of-word texts (Varchar most) (pos place) is = (refl, has-own texts place is)
of-word texts (Varchar most) (negsuc n) is =
    subst (λ w. IsOfKind texts (Varchar most) (value_of texts (Varchar most) w)) (sym is) (subst (IsOfKind texts (Varchar most)) (sym (NULL_is_null texts (Varchar most))) tt)

-- the values of a row's words; past its end there is none
pub of-words : (texts : List (List ℕ)) (kinds : List ColumnType) (words : List ℤ) (column : ℕ) → AreWordsOf texts kinds words → IsOfKind texts (kind_at kinds column) (value_at (values_of texts kinds words) column)
of-words texts [] words column are = tt
of-words texts (kind ∷ kinds) [] column are = tt
of-words texts (kind ∷ kinds) (word ∷ words) zero are = of-word texts kind word are.0
of-words texts (kind ∷ kinds) (word ∷ words) (suc column) are = of-words texts kinds words column are.1
