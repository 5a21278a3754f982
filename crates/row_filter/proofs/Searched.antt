-- What a search among words in order tells.
use Rattle.std.proofs.Common.{◌≡◌, ℕ, ℤ, true, false, List, length, get_or, Ok, Err, Result, IsSorted, inl, inr, sym, arith}
use Rattle.std.proofs.lemmas.Bool.{cases_lt}
use Rattle.std.proofs.lemmas.Int.{ints}
use Rattle.std.proofs.lemmas.List.Folds.{list_any_at, list_any_none}
use Rattle.std.proofs.lemmas.List.Sorted.{searchable_from_sorted}
use Rattle.std.specs.Cmp.{int_cmp_total, int_ranks}
use Rattle.std.specs.List.{list_any}
use Rattle.std.specs.List.Sorted.{IsBinarySearchResult, IsSearchInRange}
use Rattle.std.specs.Ordering.{int_cmp, int_eq}
use Rattle.std.specs.Result.{is_ok}
use Rattle.std.specs.declared.cmp.Ordering.TheVariants.{Less, Equal, Greater}

equal : (one word : ℤ) → int_cmp one word ≡ Equal → int_eq word one ≡ true
equal one word is = let same : one ≡ word = rw is at (int_ranks one word) in grind (arith, ints, same)

less : (one word : ℤ) → int_cmp one word ≡ Less → int_eq word one ≡ false
less one word is = let below = rw is at (int_ranks one word) in grind (arith, ints, below)

greater : (one word : ℤ) → int_cmp one word ≡ Greater → int_eq word one ≡ false
greater one word is = let above = rw is at (int_ranks one word) in grind (arith, ints, above)

-- it finds a word exactly if it is there
pub searched : (words : List ℤ) (word : ℤ) (r : Result ℕ ℕ) → IsSorted int_cmp words → IsSearchInRange r (length words) → IsBinarySearchResult (λ one. int_cmp one word) words r
    → is_ok r ≡ list_any (int_eq word) words
searched words word (Ok at) sorted inside is =
    sym (list_any_at (int_eq word) words at word inside (equal (get_or words at word) word (is word)))
searched words word (Err at) sorted inside is =
    let parted = is (searchable_from_sorted int_cmp_total (λ (one : ℤ). one) words word sorted) in
    sym (list_any_none (int_eq word) words (λ k d below. elim (cases_lt k at) [
      | inl before ↦ less (get_or words k d) word (parted.0 k d (omega arith) before)
      | inr past ↦ greater (get_or words k d) word (parted.1 k d past below)
    ]))
