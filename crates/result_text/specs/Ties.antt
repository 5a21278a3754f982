-- Rows that tie in their first columns, and others that take their places.
use Rattle.std.specs.Prelude.{◌≡◌, ◌<◌, ℕ, suc, Bool, true, false, List, [], ◌∷◌, length, take, slice_index_or}
use Rattle.result_text.specs.Rows.{WordRow}

-- the row in this place begins with the same words as the one behind it
pub record TieAt (count : ℕ) (rows : List WordRow) (place : ℕ) : Type 0 where
  pub inside : suc place < length rows
  pub same : (d : WordRow) → take count (slice_index_or rows place d) ≡ take count (slice_index_or rows (suc place) d)

-- rows that tie are marked, both of them
abbrev pub AreMarked : ℕ → List WordRow → List Bool → Type 0
AreMarked count rows marks = (place : ℕ) (d : Bool) → TieAt count rows place → (slice_index_or marks place d ≡ true) × (slice_index_or marks (suc place) d ≡ true)

-- those that are marked
abbrev pub select : {X : Type 0} → List Bool → List X → List X
select [] xs = []
select (mark ∷ marks) [] = []
select (true ∷ marks) (x ∷ xs) = x ∷ select marks xs
select (false ∷ marks) (x ∷ xs) = select marks xs

-- the same ones, but in the places of those that are marked others, in turn, as far as they go
abbrev pub weave : {X : Type 0} → List Bool → List X → List X → List X
weave [] xs others = xs
weave (mark ∷ marks) [] others = []
weave (true ∷ marks) (x ∷ xs) [] = x ∷ weave marks xs []
weave (true ∷ marks) (x ∷ xs) (other ∷ others) = other ∷ weave marks xs others
weave (false ∷ marks) (x ∷ xs) others = x ∷ weave marks xs others
