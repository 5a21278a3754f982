-- Two runs that are read as one list in order: where the list is split, and which entry stands at a place of it.
use Rattle.std.proofs.Common.{All, ◌≡◌, ℕ, zero, suc, ◌+◌, ◌-◌, ◌<◌, ◌≤◌, Bool, true, false, cond, List, [], ◌∷◌, ◌++◌, length, sum_by, take, drop, get_or, refl, sym, ap, subst, ◌∙◌, arith}
use Rattle.std.specs.Prelude.{ℤ, Contains, Err, IfOk, Ok, Result, filter, int_le, min, not}
use Rattle.std.proofs.Math.Logic.{⊎_elim, ◌⊎◌, inl, inr}
use Rattle.std.proofs.lemmas.Bool.{cases_Bool, cases_lt, true≢false}
use Rattle.std.proofs.lemmas.List.{append_assoc, length-append}
use Rattle.std.proofs.lemmas.List.Elements.{All-append, filter-append}
use Rattle.std.proofs.lemmas.List.Sums.{sum_by-cons}
use Rattle.std.proofs.lemmas.List.Sorted.{length_permutation, sum_by-IsPermutation, IsPermutation-append_comm, IsPermutation-append_left, IsPermutation-append_right, IsPermutation-cons, IsPermutation-refl, IsPermutation-swap, IsPermutation-sym, IsPermutation-trans, All-permutation}
use Rattle.std.specs.List.Sorted.{IsPartitionPoint, IsPartitionedBy, IsPermutation}
use Rattle.std.specs.Cmp.{tied_itself, upto}
use Rattle.std.specs.Ordering.{is_gt}
use Rattle.btree_index.specs.Entries.{IndexEntry, IsInOrder, entry_order, is_within, ordered, placed}
use Rattle.btree_index.specs.Nodes.{is_entry_below}
use Rattle.btree_index.specs.Runs.{IsSplitAt}
use Rattle.btree_index.proofs.EntryOrder.{IsUptoEntry, not_both, entries_total, AscendEntries, ascends_from_order, ordered_same, ordered_in_order, placed_cases, same_entry}
use Rattle.btree_index.proofs.Ranges.{between_words, entries_rise, entries_rise_to}

module _ {A : Type 0} (test : A → Bool) where
  abbrev counts : A → ℕ
  counts x = cond (test x) 1 0

  -- how many of a list pass
  abbrev passing : List A → ℕ
  passing xs = sum_by counts xs

  pass_first : (x : A) (xs : List A) → test x ≡ true → passing (x ∷ xs) ≡ suc (passing xs)
  pass_first x xs e = let one : counts x ≡ 1 = ap (λ b. cond b 1 0) {y = true} e in omega (arith, sum_by-cons counts x xs, one)

  fail_first : (x : A) (xs : List A) → test x ≡ false → passing (x ∷ xs) ≡ passing xs
  fail_first x xs e = let none : counts x ≡ 0 = ap (λ b. cond b 1 0) {y = false} e in omega (arith, sum_by-cons counts x xs, none)

  -- none passes
  none_pass : (xs : List A) → ((i : ℕ) (d : A) → i < length xs → test (get_or xs i d) ≡ false) → passing xs ≡ 0
  none_pass [] each = refl
  none_pass (x ∷ xs) each =
      fail_first x xs (each 0 x (omega arith)) ∙ none_pass xs (λ i d l. each (suc i) d (omega (arith, l)))

  tail_rises : (x : A) (xs : List A) → IsPartitionedBy test (x ∷ xs) → IsPartitionedBy test xs
  tail_rises x xs rises i j d l m = rises (suc i) (suc j) d (omega (arith, l)) (omega (arith, m))

  fails_behind : (x : A) (xs : List A) → IsPartitionedBy test (x ∷ xs) → test x ≡ false → passing (x ∷ xs) ≡ 0
  fails_behind x xs rises e =
      none_pass (x ∷ xs) (λ i d l. ⊎_elim (λ t. absurd (true≢false (sym (rises 0 i d (omega arith) l t) ∙ e))) (λ f. f) (cases_Bool (test (get_or (x ∷ xs) i d))))

  -- what passes stands before the count
  pass_below : (xs : List A) (i : ℕ) (d : A) → IsPartitionedBy test xs → i < length xs → test (get_or xs i d) ≡ true → i < passing xs
  pass_below [] i d rises l t = absurd (omega (arith, l))
  pass_below (x ∷ xs) zero d rises l t = omega (arith, pass_first x xs t)
  pass_below (x ∷ xs) (suc i) d rises l t =
      let first = rises 0 (suc i) d (omega arith) l t in
      omega (arith, pass_first x xs first, pass_below xs i d (tail_rises x xs rises) (omega (arith, l)) t)

  -- and what fails doesn't
  fail_behind : (xs : List A) (i : ℕ) (d : A) → IsPartitionedBy test xs → i < length xs → test (get_or xs i d) ≡ false → passing xs ≤ i
  fail_behind [] i d rises l f = absurd (omega (arith, l))
  fail_behind (x ∷ xs) zero d rises l f = omega (arith, fails_behind x xs rises f)
  fail_behind (x ∷ xs) (suc i) d rises l f =
      ⊎_elim (λ t. omega (arith, pass_first x xs t, fail_behind xs i d (tail_rises x xs rises) (omega (arith, l)) f))
      (λ n. omega (arith, fails_behind x xs rises n)) (cases_Bool (test x))

  passing_most : (xs : List A) → passing xs ≤ length xs
  passing_most [] = let none : passing [] ≡ 0 = refl in omega (arith, none)
  passing_most (x ∷ xs) =
      ⊎_elim (λ t. omega (arith, pass_first x xs t, passing_most xs)) (λ f. omega (arith, fail_first x xs f, passing_most xs)) (cases_Bool (test x))

  -- those up to a place all pass where the last of them does
  some_until : (xs : List A) (i : ℕ) (d : A) → IsPartitionedBy test xs → i ≤ length xs → (0 < i → test (get_or xs (i - 1) d) ≡ true) → i ≤ passing xs
  some_until xs zero d rises there last = omega arith
  some_until xs (suc i) d rises there last =
      let less : suc i - 1 ≡ i = omega arith in
      pass_below xs i d rises (omega (arith, there)) (subst (λ k. test (get_or xs k d) ≡ true) less (last (omega arith)))

  passing_both : (xs ys : List A) → passing (xs ++ ys) ≡ passing xs + passing ys
  passing_both [] ys = let none : passing [] ≡ 0 = refl in omega (arith, none)
  passing_both (x ∷ xs) ys = omega (arith, sum_by-cons counts x (xs ++ ys), sum_by-cons counts x xs, passing_both xs ys)

  passing_same : (xs ys : List A) → IsPermutation xs ys → passing ys ≡ passing xs
  passing_same xs ys same = sum_by-IsPermutation counts xs ys same

  -- the place where a list is split is the count
  point_counts : (xs : List A) (i : ℕ) → i ≤ length xs → IsPartitionPoint (λ x. test x ≡ true) (λ x. test x ≡ false) xs i → passing xs ≡ i
  point_counts [] zero l so = refl
  point_counts [] (suc i) l so = absurd (omega (arith, l))
  point_counts (x ∷ xs) zero l so = none_pass (x ∷ xs) (λ i d m. so.1 i d (omega arith) m)
  point_counts (x ∷ xs) (suc i) l so =
      omega (
        arith,
        pass_first x xs (so.0 0 x (omega arith) (omega arith)),
        point_counts xs i (omega (arith, l)) (λ k d m n. so.0 (suc k) d (omega (arith, m)) (omega (arith, n)), λ k d m n. so.1 (suc k) d (omega (arith, m)) (omega (arith, n))),
      )

  -- and at the count it is split
  count_splits : (xs : List A) (i : ℕ) → IsPartitionedBy test xs → passing xs ≡ i → IsPartitionPoint (λ x. test x ≡ true) (λ x. test x ≡ false) xs i
  count_splits xs i rises is = (
    λ k d m n. ⊎_elim (λ t. t) (λ f. absurd (omega (arith, n, is, fail_behind xs k d rises (omega (arith, n, is, passing_most xs)) f))) (cases_Bool (test (get_or xs k d))),
    λ k d m n. ⊎_elim (λ t. absurd (omega (arith, m, is, pass_below xs k d rises n t))) (λ f. f) (cases_Bool (test (get_or xs k d))),
  )

  -- two lists that are split make one that is split at the sum
  pub split_both : (xs ys all : List A) (i j : ℕ) → IsPermutation (xs ++ ys) all → IsPartitionedBy test all → i ≤ length xs → j ≤ length ys
      → IsPartitionPoint (λ x. test x ≡ true) (λ x. test x ≡ false) xs i → IsPartitionPoint (λ x. test x ≡ true) (λ x. test x ≡ false) ys j
      → IsPartitionPoint (λ x. test x ≡ true) (λ x. test x ≡ false) all (i + j)
  split_both xs ys all i j same rises there there' so so' =
      count_splits all (i + j) rises
      (passing_same (xs ++ ys) all same ∙ passing_both xs ys ∙ (λ k. point_counts xs i there so k + point_counts ys j there' so' k))

not_true : (b : Bool) → not b ≡ true → b ≡ false
not_true true e = absurd (true≢false (sym e))
not_true false e = refl

ascending_pair : (xs : List IndexEntry) → AscendEntries xs → (i j : ℕ) (d : IndexEntry) → i ≤ j → j < length xs → IsUptoEntry (get_or xs i d) (get_or xs j d)
ascending_pair [] up i j d le there = absurd (omega (arith, there))
ascending_pair (x ∷ xs) up zero zero d le there = ap is_gt (tied_itself entries_total x)
ascending_pair (x ∷ xs) up zero (suc j) d le there = up.0 j d (omega (arith, there))
ascending_pair (x ∷ xs) up (suc i) zero d le there = absurd (omega (arith, le))
ascending_pair (x ∷ xs) up (suc i) (suc j) d le there = ascending_pair xs up.1 i j d (omega (arith, le)) (omega (arith, there))

-- entries in order rise
pairs_upto : (xs : List IndexEntry) (i j : ℕ) (d : IndexEntry) → IsInOrder xs → i ≤ j → j < length xs → IsUptoEntry (get_or xs i d) (get_or xs j d)
pairs_upto xs i j d order le there =
    ascending_pair xs (ascends_from_order xs order) i j d le there

module _ (x : IndexEntry) where
  -- whether an entry comes before this one
  abbrev before : IndexEntry → Bool
  before e = is_gt (entry_order x e)

  -- and whether it doesn't come after it
  abbrev until : IndexEntry → Bool
  until e = not (is_gt (entry_order e x))

  before_rises : (xs : List IndexEntry) → IsInOrder xs → IsPartitionedBy before xs
  before_rises xs order i j d le there t =
      ⊎_elim (λ g. g) (λ f. absurd (true≢false (sym t ∙ upto entries_total x (get_or xs i d) (get_or xs j d) f (pairs_upto xs i j d order le there))))
      (cases_Bool (before (get_or xs i d)))

  until_is : (e : IndexEntry) → until e ≡ true → IsUptoEntry e x
  until_is e t = not_true (is_gt (entry_order e x)) t

  until_so : (e : IndexEntry) → IsUptoEntry e x → until e ≡ true
  until_so e u = ap not u

  until_rises : (xs : List IndexEntry) → IsInOrder xs → IsPartitionedBy until xs
  until_rises xs order i j d le there t =
      until_so (get_or xs i d) (upto entries_total (get_or xs i d) (get_or xs j d) x (pairs_upto xs i j d order le there) (until_is (get_or xs j d) t))

-- The entry that comes next of both: where of two lists in order so many entries stand before a place, and the next one of the first list is
-- not greater than that of the second, it stands there.
pub entry_chosen : (xs ys all : List IndexEntry) (i j : ℕ) (d : IndexEntry) → IsInOrder xs → IsInOrder ys → IsInOrder all → IsPermutation (xs ++ ys) all
    → i < length xs → j ≤ length ys → (j < length ys → IsUptoEntry (get_or xs i d) (get_or ys j d)) → (0 < j → IsUptoEntry (get_or ys (j - 1) d) (get_or xs i d))
    → get_or xs i d ≡ get_or all (i + j) d
entry_chosen xs ys all i j d order order' whole same there there' next last =
    let x = get_or xs i d in
    let y = get_or all (i + j) d in
    let itself : IsUptoEntry x x = ap is_gt (tied_itself entries_total x) in
    let inside : i + j < length all = omega (arith, length_permutation (xs ++ ys) all same, length-append xs ys) in
    -- so many come before it
    let below : passing (before x) all ≤ i + j = omega (
      arith,
      passing_same (before x) (xs ++ ys) all same,
      passing_both (before x) xs ys,
      fail_behind (before x) xs i d (before_rises x xs order) there itself,
      ⊎_elim (λ (l : j < length ys). fail_behind (before x) ys j d (before_rises x ys order') l (next l)) (λ (n : length ys ≤ j). let most = passing_most (before x) ys in omega (arith, n, most)) (cases_lt j (length ys)),
    ) in
    -- and more up to it
    let upto_it : i + j < passing (until x) all = omega (
      arith,
      passing_same (until x) (xs ++ ys) all same,
      passing_both (until x) xs ys,
      pass_below (until x) xs i d (until_rises x xs order) there (until_so x x itself),
      some_until (until x) ys j d (until_rises x ys order') there' (λ p. until_so x (get_or ys (j - 1) d) (last p)),
    ) in
    let first : IsUptoEntry x y = ⊎_elim (λ t. absurd (omega (arith, below, pass_below (before x) all (i + j) d (before_rises x all whole) inside t))) (λ f. f) (cases_Bool (before x y)) in
    let second : IsUptoEntry y x = ⊎_elim (λ t. until_is x y t) (λ f. absurd (omega (arith, upto_it, fail_behind (until x) all (i + j) d (until_rises x all whole) inside f))) (cases_Bool (until x y)) in
    same_entry x y first second

-- an entry that is put into its place is one more that may pass
filter_placed : (test : IndexEntry → Bool) (entry : IndexEntry) (entries : List IndexEntry) → IsPermutation (filter test (entry ∷ entries)) (filter test (placed entry entries))
filter_placed test entry [] = IsPermutation-refl (filter test (entry ∷ []))
filter_placed test entry (first ∷ rest) =
    placed_cases (λ xs. IsPermutation (filter test (entry ∷ first ∷ rest)) (filter test xs)) entry first rest
    (λ _. IsPermutation-trans _ (filter test (first ∷ entry ∷ rest)) _ (two_change (cases_Bool (test entry)) (cases_Bool (test first))) (behind first (entry ∷ rest) (placed entry rest) (filter_placed test entry rest)))
    (λ _. IsPermutation-refl (filter test (entry ∷ first ∷ rest)))
  where
    behind : (e : IndexEntry) (xs ys : List IndexEntry) → IsPermutation (filter test xs) (filter test ys) → IsPermutation (filter test (e ∷ xs)) (filter test (e ∷ ys))
    behind e xs ys same =
        ⊎_elim (λ t. rw t (IsPermutation-cons e (filter test xs) (filter test ys) same)) (λ f. rw f same) (cases_Bool (test e))

    two_change : (test entry ≡ true) ⊎ (test entry ≡ false) → (test first ≡ true) ⊎ (test first ≡ false) → IsPermutation (filter test (entry ∷ first ∷ rest)) (filter test (first ∷ entry ∷ rest))
    two_change (inl a) (inl b) = rw (a, b) (IsPermutation-swap (entry ∷ first ∷ filter test rest) (first ∷ entry ∷ filter test rest) 0 1 (omega arith) (omega arith) refl)
    two_change (inl a) (inr b) = rw (a, b) (IsPermutation-refl (entry ∷ filter test rest))
    two_change (inr a) (inl b) = rw (a, b) (IsPermutation-refl (first ∷ filter test rest))
    two_change (inr a) (inr b) = rw (a, b) (IsPermutation-refl (filter test rest))

-- what passes of entries in order is what passes of the entries
filter_ordered : (test : IndexEntry → Bool) (entries : List IndexEntry) → IsPermutation (filter test entries) (filter test (ordered entries))
filter_ordered test [] = IsPermutation-refl []
filter_ordered test (entry ∷ entries) =
    IsPermutation-trans _ (filter test (entry ∷ ordered entries)) _
    (⊎_elim (λ t. rw t (IsPermutation-cons entry _ _ (filter_ordered test entries))) (λ f. rw f (filter_ordered test entries)) (cases_Bool (test entry)))
    (filter_placed test entry (ordered entries))

-- the entries of a range are those of both runs
pub found_both : (xs ys found found' : List IndexEntry) (from to : ℤ) → found ≡ filter (is_within from to) xs → found' ≡ filter (is_within from to) ys
    → IsPermutation (filter (is_within from to) (ordered (xs ++ ys))) (found ++ found')
found_both xs ys found found' from to is is' =
    let test = is_within from to in
    subst (IsPermutation (filter test (ordered (xs ++ ys)))) (filter-append test xs ys ∙ (λ i. sym is i ++ sym is' i))
    (IsPermutation-sym _ _ (filter_ordered test (xs ++ ys)))

-- a cursor on both runs, each of which has a stretch of the range
pub range_both : (xs ys : List IndexEntry) (from to : ℤ) (i j m n : ℕ) → i ≤ length xs → j ≤ length xs → m ≤ length ys → n ≤ length ys
    → IsPartitionPoint (λ e. is_entry_below from e ≡ true) (λ e. is_entry_below from e ≡ false) xs i → IsPartitionPoint (λ e. int_le e.0 to ≡ true) (λ e. int_le e.0 to ≡ false) xs j
    → IsPartitionPoint (λ e. is_entry_below from e ≡ true) (λ e. is_entry_below from e ≡ false) ys m → IsPartitionPoint (λ e. int_le e.0 to ≡ true) (λ e. int_le e.0 to ≡ false) ys n
    → take (j + n - (i + m)) (drop (i + m) (ordered (xs ++ ys))) ≡ filter (is_within from to) (ordered (xs ++ ys))
range_both xs ys from to i j m n il jl ml nl begins ends begins' ends' =
    let all = ordered (xs ++ ys) in
    let same = ordered_same (xs ++ ys) in
    let order = ordered_in_order (xs ++ ys) in
    let long : length all ≡ length xs + length ys = length_permutation (xs ++ ys) all same ∙ length-append xs ys in
    between_words all from to (i + m) (j + n) (omega (arith, long, il, ml)) (omega (arith, long, jl, nl))
    (split_both (is_entry_below from) xs ys all i m same (entries_rise all from order) il ml begins begins')
    (split_both (λ e. int_le e.0 to) xs ys all j n same (entries_rise_to all to order) jl nl ends ends')

pub ordered_length : (xs ys : List IndexEntry) → length (ordered (xs ++ ys)) ≡ length xs + length ys
ordered_length xs ys = length_permutation (xs ++ ys) (ordered (xs ++ ys)) (ordered_same (xs ++ ys)) ∙ length-append xs ys

-- a few entries more beside the older ones
pub merged_few : (xs ys more few : List IndexEntry) → IsPermutation (ys ++ more) few → IsPermutation (ordered (xs ++ ys) ++ more) (ordered (xs ++ few))
merged_few xs ys more few same =
    IsPermutation-trans _ ((xs ++ ys) ++ more) _ (IsPermutation-append_left more _ _ (IsPermutation-sym _ _ (ordered_same (xs ++ ys))))
    (subst (λ zs. IsPermutation zs (ordered (xs ++ few))) (sym (append_assoc xs ys more))
    (IsPermutation-trans _ (xs ++ few) _ (IsPermutation-append_right xs _ _ same) (ordered_same (xs ++ few))))

-- or all of them in one run
pub merged_all : (xs ys more all : List IndexEntry) → IsPermutation ((xs ++ ys) ++ more) all → IsPermutation (ordered (xs ++ ys) ++ more) all
merged_all xs ys more all same =
    IsPermutation-trans _ ((xs ++ ys) ++ more) _ (IsPermutation-append_left more _ _ (IsPermutation-sym _ _ (ordered_same (xs ++ ys)))) same

-- an index of one run of entries that were put in order
pub built_same : {E : Type 0} (r : Result (List IndexEntry) E) (entries sorted : List IndexEntry) → IsPermutation entries sorted → IfOk r (λ index. index ≡ ordered sorted) → IfOk r (λ index. IsPermutation entries index)
built_same (Ok index) entries sorted same is = subst (IsPermutation entries) (sym is) (IsPermutation-trans _ sorted _ same (ordered_same sorted))
built_same (Err e) entries sorted same is = tt

pub built_order : {E : Type 0} (r : Result (List IndexEntry) E) (sorted : List IndexEntry) → IfOk r (λ index. index ≡ ordered sorted) → IfOk r IsInOrder
built_order (Ok index) sorted is = subst IsInOrder (sym is) (ordered_in_order sorted)
built_order (Err e) sorted is = tt

at_left : (xs ys : List IndexEntry) (k : ℕ) (d : IndexEntry) → k < length xs → get_or (xs ++ ys) k d ≡ get_or xs k d
at_left [] ys k d there = absurd (omega (arith, there))
at_left (x ∷ xs) ys zero d there = refl
at_left (x ∷ xs) ys (suc k) d there = at_left xs ys k d (omega (arith, there))

any_default : (xs : List IndexEntry) (k : ℕ) (d e : IndexEntry) → k < length xs → get_or xs k d ≡ get_or xs k e
any_default [] k d e there = absurd (omega (arith, there))
any_default (x ∷ xs) zero d e there = refl
any_default (x ∷ xs) (suc k) d e there = any_default xs k d e (omega (arith, there))

contained : (xs : List IndexEntry) → All (Contains xs) xs
contained xs k d there = (k, there, any_default xs k (get_or xs k d) d there)

-- each older entry is one of the index
pub near_there : (xs ys : List IndexEntry) → All (Contains (ordered (xs ++ ys))) xs
near_there xs ys k d there =
    let all = ordered (xs ++ ys) in
    subst (Contains all) (at_left xs ys k d there)
    (All-permutation (Contains all) all (xs ++ ys) (IsPermutation-sym _ _ (ordered_same (xs ++ ys))) (contained all) k d (omega (arith, there, length-append xs ys)))

-- where both are split, the next of the older ones comes next, or the next of the newer ones
pub older_next : (xs ys : List IndexEntry) (place first : ℕ) (d : IndexEntry) → IsInOrder xs → IsInOrder ys → IsSplitAt xs ys place first → first < length xs
    → (place - first < length ys → is_gt (entry_order (get_or xs first d) (get_or ys (place - first) d)) ≡ false)
    → get_or xs first d ≡ get_or (ordered (xs ++ ys)) place d
older_next xs ys place first d order order' split there next =
    let sum : first + (place - first) ≡ place = omega (arith, split.low) in
    entry_chosen xs ys (ordered (xs ++ ys)) first (place - first) d order order' (ordered_in_order (xs ++ ys)) (ordered_same (xs ++ ys)) there split.newer_there next
    (λ some. split.newer_before d (omega (arith, some)) there)
    ∙ ap (λ k. get_or (ordered (xs ++ ys)) k d) sum

pub newer_next : (xs ys : List IndexEntry) (place first : ℕ) (d : IndexEntry) → IsInOrder xs → IsInOrder ys → IsSplitAt xs ys place first → place - first < length ys
    → (first < length xs → is_gt (entry_order (get_or ys (place - first) d) (get_or xs first d)) ≡ false)
    → get_or ys (place - first) d ≡ get_or (ordered (xs ++ ys)) place d
newer_next xs ys place first d order order' split there next =
    let sum : place - first + first ≡ place = omega (arith, split.low) in
    entry_chosen ys xs (ordered (xs ++ ys)) (place - first) first d order' order (ordered_in_order (xs ++ ys))
    (IsPermutation-trans _ (xs ++ ys) _ (IsPermutation-append_comm ys xs) (ordered_same (xs ++ ys))) there split.older_there next
    (λ some. split.older_before d some there)
    ∙ ap (λ k. get_or (ordered (xs ++ ys)) k d) sum

-- what comes after another isn't come after by it
pub not_after : (x y : IndexEntry) → is_gt (entry_order x y) ≡ true → is_gt (entry_order y x) ≡ false
not_after x y after = ap is_gt (entries_total.antisymm y x) ∙ not_both (entry_order x y) after

-- words of both
pub words_ordered : (P : IndexEntry → Type 0) (xs ys : List IndexEntry) → All P xs → All P ys → All P (ordered (xs ++ ys))
words_ordered P xs ys all all' = All-permutation P (xs ++ ys) (ordered (xs ++ ys)) (ordered_same (xs ++ ys)) (All-append P xs ys all all')

-- where there is no newer entry, the next of the older ones comes next
pub alone_next : (xs ys : List IndexEntry) (place : ℕ) (d : IndexEntry) → IsInOrder xs → IsInOrder ys → length ys ≡ 0 → place < length xs
    → get_or xs place d ≡ get_or (ordered (xs ++ ys)) place d
alone_next xs ys place d order order' none there =
    let sum : place + 0 ≡ place = omega arith in
    entry_chosen xs ys (ordered (xs ++ ys)) place 0 d order order' (ordered_in_order (xs ++ ys)) (ordered_same (xs ++ ys)) there (omega arith)
    (λ some. absurd (omega (arith, some, none))) (λ some. absurd (omega (arith, some)))
    ∙ ap (λ k. get_or (ordered (xs ++ ys)) k d) sum

pub any_entry : (xs ys : List IndexEntry) (place : ℕ) (d e : IndexEntry) → place < length xs + length ys → get_or (ordered (xs ++ ys)) place d ≡ get_or (ordered (xs ++ ys)) place e
any_entry xs ys place d e there = any_default (ordered (xs ++ ys)) place d e (omega (arith, there, ordered_length xs ys))

-- a stretch that begins no later than it ends
pub min_stretch : (xs : List IndexEntry) (b e m : ℕ) → m ≡ min b e → take (e - m) (drop m xs) ≡ take (e - b) (drop b xs)
min_stretch xs b e m is =
    ⊎_elim (λ (less : e < b). let none : e - m ≡ 0 = omega (arith, is, less) in let none' : e - b ≡ 0 = omega (arith, less) in rw (none, none') refl)
    (λ (up : b ≤ e). let same : m ≡ b = omega (arith, is, up) in ap (λ k. take (e - k) (drop k xs)) same) (cases_lt e b)
