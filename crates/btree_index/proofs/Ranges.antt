-- What two searches in a sorted list find, and what one step of a cursor takes of it.
use Rattle.std.proofs.Common.{◌≡◌, ℕ, zero, suc, ◌+◌, ◌-◌, ◌<◌, ◌≤◌, List, [], ◌∷◌, length, take, drop, refl, ap, ◌∙◌, arith}
use Rattle.std.specs.Prelude.{ℤ, Bool, true, false, not, ◌&&◌, filter, slice_index_or, int_lt, int_le}
use Rattle.std.specs.declared.cmp.Ordering.{Ordering}
use Rattle.std.specs.Ordering.{ordering_then, is_lt, ordering_index, int_cmp, nat_cmp}
use Rattle.std.specs.List.Sorted.{IsPartitionPoint, IsPartitionedBy, IsNonDecreasingBy}
use Rattle.std.specs.Cmp.{int_cmp_total}
use Rattle.std.proofs.lemmas.List.Sorted.{searchable_from_sorted}
use Rattle.std.proofs.lemmas.Int.{ints}
use Rattle.std.proofs.Math.Seq.{drop-cons}
use Rattle.std.specs.declared.cmp.Ordering.TheVariants.{Less, Equal, Greater}
use Rattle.btree_index.specs.Entries.{IndexEntry, IsInOrder, is_within}
use Rattle.btree_index.specs.Nodes.{is_entry_below}

-- between a place up to which all fail a test and one up to which all pass another lies what fails the first and passes the second
pub between_points : {A : Type 0} (p q : A → Bool) (xs : List A) (i j : ℕ) → i ≤ length xs → j ≤ length xs
    → IsPartitionPoint (λ x. p x ≡ true) (λ x. p x ≡ false) xs i → IsPartitionPoint (λ x. q x ≡ true) (λ x. q x ≡ false) xs j
    → take (j - i) (drop i xs) ≡ filter (λ x. not (p x) && q x) xs
between_points p q [] zero zero a b f g = refl
between_points p q [] (suc i) j a b f g = absurd (omega arith)
between_points p q [] zero (suc j) a b f g = absurd (omega arith)
between_points p q (x ∷ xs) (suc i) (suc j) a b f g =
    let less : suc j - suc i ≡ j - i = omega arith in
    rw (less, f.0 0 x (omega arith) (omega arith))
    (between_points p q xs i j (omega arith) (omega arith)
    (λ k d l m. f.0 (suc k) d (omega arith) (omega arith), λ k d l m. f.1 (suc k) d (omega arith) (omega arith))
    (λ k d l m. g.0 (suc k) d (omega arith) (omega arith), λ k d l m. g.1 (suc k) d (omega arith) (omega arith)))
between_points p q (x ∷ xs) (suc i) zero a b f g =
    let less : zero - suc i ≡ zero - i = omega arith in
    rw (less, f.0 0 x (omega arith) (omega arith))
    (between_points p q xs i zero (omega arith) (omega arith)
    (λ k d l m. f.0 (suc k) d (omega arith) (omega arith), λ k d l m. f.1 (suc k) d (omega arith) (omega arith))
    (λ k d l m. absurd (omega arith), λ k d l m. g.1 (suc k) d (omega arith) (omega arith)))
between_points p q (x ∷ xs) zero (suc j) a b f g =
    let more : suc j - zero ≡ suc (j - zero) = omega arith in
    rw (more, f.1 0 x (omega arith) (omega arith), g.0 0 x (omega arith) (omega arith))
    (ap (λ l. x ∷ l) (between_points p q xs zero j (omega arith) (omega arith)
    (λ k d l m. absurd (omega arith), λ k d l m. f.1 (suc k) d (omega arith) (omega arith))
    (λ k d l m. g.0 (suc k) d (omega arith) (omega arith), λ k d l m. g.1 (suc k) d (omega arith) (omega arith))))
between_points p q (x ∷ xs) zero zero a b f g =
    rw (f.1 0 x (omega arith) (omega arith), g.1 0 x (omega arith) (omega arith))
    (between_points p q xs zero zero (omega arith) (omega arith)
    (λ k d l m. absurd (omega arith), λ k d l m. f.1 (suc k) d (omega arith) (omega arith))
    (λ k d l m. absurd (omega arith), λ k d l m. g.1 (suc k) d (omega arith) (omega arith)))

first_not_less : (a b : Ordering) → is_lt (ordering_then a b) ≡ false → is_lt a ≡ false
first_not_less Less b less = less
first_not_less Equal b less = refl
first_not_less Greater b less = refl

-- along a sorted list the words rise
words_rise : (xs : List IndexEntry) (word : ℤ) → IsInOrder xs → IsNonDecreasingBy (λ e. ordering_index (int_cmp e.0 word)) xs
words_rise xs word sorted =
    searchable_from_sorted int_cmp_total (λ e. e.0) xs word
    (λ k d l m. first_not_less (int_cmp (slice_index_or xs (k + 1) d).0 (slice_index_or xs k d).0) (nat_cmp (slice_index_or xs (k + 1) d).1 (slice_index_or xs k d).1) (sorted k d l m))

below_kept : (x y bound : ℤ) → ordering_index (int_cmp x bound) ≤ ordering_index (int_cmp y bound) → int_lt y bound ≡ true → int_lt x bound ≡ true
below_kept x y bound = grind (arith, ints)

most_kept : (x y bound : ℤ) → ordering_index (int_cmp x bound) ≤ ordering_index (int_cmp y bound) → int_le y bound ≡ true → int_le x bound ≡ true
most_kept x y bound = grind (arith, ints)

within_is : (from to word : ℤ) → not (int_lt word from) && int_le word to ≡ int_le from word && int_le word to
within_is from to word = grind (arith, ints)

-- so the entries with lesser words come first
pub entries_rise : (xs : List IndexEntry) (word : ℤ) → IsInOrder xs → IsPartitionedBy (is_entry_below word) xs
entries_rise xs word sorted i j d l m = below_kept _ _ word (words_rise xs word sorted i j d l m)

-- and so do those with words up to one
pub entries_rise_to : (xs : List IndexEntry) (word : ℤ) → IsInOrder xs → IsPartitionedBy (λ e. int_le e.0 word) xs
entries_rise_to xs word sorted i j d l m = most_kept _ _ word (words_rise xs word sorted i j d l m)

-- what lies between the entries below a range and those up to its end is the range
pub between_words : (xs : List IndexEntry) (from to : ℤ) (i j : ℕ) → i ≤ length xs → j ≤ length xs
    → IsPartitionPoint (λ e. is_entry_below from e ≡ true) (λ e. is_entry_below from e ≡ false) xs i
    → IsPartitionPoint (λ e. int_le e.0 to ≡ true) (λ e. int_le e.0 to ≡ false) xs j
    → take (j - i) (drop i xs) ≡ filter (is_within from to) xs
between_words xs from to i j a b f g =
    between_points (is_entry_below from) (λ e. int_le e.0 to) xs i j a b f g ∙ ap (λ p. filter p xs) (λ i e. within_is from to e.0 i)

-- the next entry of a cursor comes first of those that are left
pub left_step : (xs : List IndexEntry) (next end : ℕ) (d : IndexEntry) → next < end → end ≤ length xs
    → take (end - next) (drop next xs) ≡ slice_index_or xs next d ∷ take (end - (next + 1)) (drop (next + 1) xs)
left_step xs next end d some there =
    let more : end - next ≡ suc (end - (next + 1)) = omega arith in
    let on : suc next ≡ next + 1 = omega arith in
    rw (more, drop-cons xs next d (omega arith), on) refl

-- and where there is none, nothing is left
pub left_none : (xs : List IndexEntry) (next end : ℕ) → end ≤ next → take (end - next) (drop next xs) ≡ []
left_none xs next end none = let gone : end - next ≡ 0 = omega arith in rw gone refl

outside : (from to word : ℤ) → int_lt to from ≡ true → int_le from word && int_le word to ≡ false
outside from to word = grind (arith, ints)

-- no entry is within a range that ends before it begins
pub none_within : (xs : List IndexEntry) (from to : ℤ) → int_lt to from ≡ true → filter (is_within from to) xs ≡ []
none_within [] from to less = refl
none_within (x ∷ xs) from to less = rw (outside from to x.0 less) (none_within xs from to less)
