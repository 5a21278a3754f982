-- A word in any case, compared byte by byte.
use Rattle.std.proofs.Common.{◌≡◌, ◌≢◌, ℕ, suc, ◌+◌, ◌<◌, ◌≤◌, true, false, ◌&&◌, List, [], ◌∷◌, length, drop, get_or, refl, ap, ◌∙◌}
use Rattle.std.specs.Prelude.{bytes_eq, ◌==◌}
use Rattle.std.specs.Char.{to_ascii_uppercase}
use Rattle.std.specs.Str.{str_to_ascii_uppercase}
use Rattle.std.proofs.lemmas.List.{drop_more, drop_all}
use Rattle.std.proofs.lemmas.Bool.{and_right}
use borrow.Author.Tests.{eq-eqb, ne_eqb}

-- words of different lengths
pub bytes_eq-length : (word upper : List ℕ) → length word ≢ length upper → bytes_eq (str_to_ascii_uppercase word) upper ≡ false
bytes_eq-length [] [] other = absurd (other refl)
bytes_eq-length [] (b ∷ bs) other = refl
bytes_eq-length (a ∷ rest) [] other = refl
bytes_eq-length (a ∷ rest) (b ∷ bs) other = and_right _ _ (bytes_eq-length rest bs (λ e. other (ap suc e)))

-- one byte more
bytes_eq-drop : (word upper : List ℕ) (i : ℕ) → i < length word → i < length upper
    → bytes_eq (str_to_ascii_uppercase (drop i word)) (drop i upper) ≡ ((to_ascii_uppercase (get_or word i 0) == get_or upper i 0) && bytes_eq (str_to_ascii_uppercase (drop (i + 1) word)) (drop (i + 1) upper))
bytes_eq-drop word upper i a b = rw (drop_more word i 0 a, drop_more upper i 0 b) refl

pub bytes_eq-drop_same : (word upper : List ℕ) (i : ℕ) → i < length word → i < length upper → to_ascii_uppercase (get_or word i 0) ≡ get_or upper i 0
    → bytes_eq (str_to_ascii_uppercase (drop i word)) (drop i upper) ≡ bytes_eq (str_to_ascii_uppercase (drop (i + 1) word)) (drop (i + 1) upper)
bytes_eq-drop_same word upper i a b e = bytes_eq-drop word upper i a b ∙ rw (eq-eqb _ _ e) refl

pub bytes_eq-drop_other : (word upper : List ℕ) (i : ℕ) → i < length word → i < length upper → to_ascii_uppercase (get_or word i 0) ≢ get_or upper i 0
    → bytes_eq (str_to_ascii_uppercase (drop i word)) (drop i upper) ≡ false
bytes_eq-drop_other word upper i a b n = bytes_eq-drop word upper i a b ∙ rw (ne_eqb _ _ n) refl

pub bytes_eq-drop_all : (word upper : List ℕ) (i : ℕ) → length word ≤ i → length upper ≤ i → bytes_eq (str_to_ascii_uppercase (drop i word)) (drop i upper) ≡ true
bytes_eq-drop_all word upper i a b = rw (drop_all i word a, drop_all i upper b) refl

pub ruleset of_words = (bytes_eq-length, bytes_eq-drop_same, bytes_eq-drop_other, bytes_eq-drop_all)
