-- Texts are equal where their bytes are, and texts of a dictionary where their codes are.
use Rattle.std.proofs.Common.{◌≡◌, ◌≢◌, ℕ, ◌<◌, zero, suc, not, List, [], ◌∷◌, length, ℤ, pos, negsuc, refl, IsSome, get_or, nat_eq, nat_cmp, of_z, w64, arith}
use Rattle.std.proofs.lemmas.Grind.{common_steps}
use Rattle.std.specs.List.{IsDistinct, AllPairs}
use Rattle.std.specs.Ordering.{is_eq, is_ne}
use Rattle.std.specs.Cmp.Lexicographic.{slice_cmp}
use Rattle.std.specs.Str.{bytes_eq}
use Rattle.std.specs.declared.cmp.Ordering.{Ordering}
use Rattle.std.specs.declared.cmp.Ordering.TheVariants.{Less, Equal, Greater}
use Rattle.std.proofs.lemmas.Bool.Decides.{same_from_decides, Decides-eqb, Decides-like}
use Rattle.std.proofs.lemmas.Map.Made.{AllPairs-from_IsDistinct}
use Rattle.std.proofs.lemmas.Map.Text.{is_eq-slice_cmp}
use Rattle.std.proofs.lemmas.Slice.Eq.{bytes_eq-Decides}
use Rattle.sql_values.specs.Dictionary.{text_of}
use Rattle.query_block.specs.Cells.{text_at}

pub is_ne-not : (order : Ordering) → is_ne order ≡ not (is_eq order)
is_ne-not Less = refl
is_ne-not Equal = refl
is_ne-not Greater = refl

text-at-place : (texts : List (List ℕ)) (place : ℕ) → text_at texts (pos place) ≡ get_or texts place []
text-at-place [] place = refl
text-at-place (text ∷ texts) zero = refl
text-at-place (text ∷ texts) (suc place) = text-at-place texts place

place-below : (texts : List (List ℕ)) (place : ℕ) → IsSome (text_of texts (pos place)) → place < length texts
place-below [] place there = cc
place-below (text ∷ texts) zero there = omega arith
place-below (text ∷ texts) (suc place) there = let below : place < length texts = place-below texts place there in omega arith

-- different places have different texts
one_place : (texts : List (List ℕ)) (i j : ℕ) → AllPairs (λ x y. x ≢ y) texts → i < length texts → j < length texts → get_or texts i [] ≡ get_or texts j [] → i ≡ j
one_place texts i j pairs there_i there_j same = grind (arith, common_steps)

-- so codes are equal where their texts are
pub equal_codes : (texts : List (List ℕ)) (a b : ℤ) → IsDistinct bytes_eq texts → IsSome (text_of texts a) → IsSome (text_of texts b)
    → nat_eq (of_z w64 a) (of_z w64 b) ≡ is_eq (slice_cmp nat_cmp (text_at texts a) (text_at texts b))
equal_codes texts (pos i) (pos j) distinct there_i there_j =
    grind (arith, common_steps, nat_cmp, is_eq-slice_cmp, same_from_decides, nat_eq, Decides-eqb, Decides-like, one_place, AllPairs-from_IsDistinct, bytes_eq-Decides, place-below, text-at-place)
equal_codes texts (pos i) (negsuc j) distinct there_i there_j = cc
equal_codes texts (negsuc i) b distinct there_i there_j = cc
