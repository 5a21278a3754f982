-- Words within bounds that grow.
use Rattle.std.proofs.Common.{zero, suc, ℤ, ◌≤ℤ◌, List, [], ◌∷◌, ◌++◌, All, arith}
use Rattle.std.proofs.lemmas.Int.{ints}
use Rattle.std.proofs.lemmas.List.Elements.{All-append}
use Rattle.narrow_columns.specs.Codes.{IsWithin}

one : (P : ℤ → Type 0) (x : ℤ) → P x → All P (x ∷ [])
one P x h zero d before = h
one P x h (suc k) d before = absurd (omega arith)

-- all words are within wider bounds, and so is one more
pub within-more : (a b c d : ℤ) → a ≤ℤ c → d ≤ℤ b → (words : List ℤ) (word : ℤ) → All (IsWithin c d) words → IsWithin a b word → All (IsWithin a b) (words ++ word ∷ [])
within-more a b c d low high words word all this =
    All-append (IsWithin a b) words (word ∷ []) wider (one (IsWithin a b) word this)
  where
    wider : All (IsWithin a b) words
    wider k e before known = let between = all k e before known in (omega (arith, ints, between.0), omega (arith, ints, between.1))
