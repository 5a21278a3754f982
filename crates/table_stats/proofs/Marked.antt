-- Rows that are tried by their marks, one marked row after another.
use Rattle.std.proofs.Common.{◌≡◌, ℕ, zero, suc, ◌+◌, ◌*◌, ◌/◌, ◌^◌, ◌<◌, ◌≤◌, Bool, true, false, not, cond, List, [], ◌∷◌, length, map, count_by, get_or, take, drop, refl, sym, ap, subst, ◌∙◌, arith}
use Rattle.std.specs.Prelude.{count_ones}
use Rattle.std.specs.List.{prefix_len}
use Rattle.std.specs.Int.Count.{count_trailing_zeros}
use Rattle.std.proofs.Math.Nat.{div-div-eq-div-mul, zero-div}
use Rattle.std.proofs.lemmas.Nat.{pow-add}
use Rattle.std.proofs.lemmas.Bool.{false_from_ne_true, true≢false}
use Rattle.std.proofs.lemmas.List.{get_or-drop, length-drop, take-append-drop}
use Rattle.std.proofs.lemmas.List.Sums.{count_by_more_no, prefix_len_passes}
use Rattle.std.proofs.lemmas.Simd.{trailing_mask_l}
use Rattle.narrow_columns.specs.Marks.{marks_of}
use Rattle.heap_pages.proofs.MarkedRows.{marks_of-mask, ones-marks_of}
use Rattle.row_filter.proofs.Marked.{none-marked}
use Rattle.table_stats.proofs.Counted.{count-append}

half : (b : Bool) (n : ℕ) → (cond b 1 0 + 2 * n) / 2 ≡ n
half true n = omega arith
half false n = omega arith

-- marks behind so many places
pub shifted : {X : Type 0} (p : X → Bool) (xs : List X) (n : ℕ) → marks_of (map p xs) / 2 ^ n ≡ marks_of (map p (drop n xs))
shifted p xs zero = omega arith
shifted p [] (suc n) = zero-div (2 ^ suc n)
shifted p (x ∷ xs) (suc n) =
    let marks = cond (p x) 1 0 + 2 * marks_of (map p xs) in
    let power : 2 ^ suc n ≡ 2 * 2 ^ n = grind arith in
    ap (λ m. marks / m) power ∙ sym (div-div-eq-div-mul marks 2 (2 ^ n)) ∙ ap (λ m. m / 2 ^ n) (half (p x) (marks_of (map p xs))) ∙ shifted p xs n

-- where some row is marked, the lowest bit is that of the first
some-of : (b : Bool) (m s n : ℕ) → (0 < m → s < n) → 0 < cond b 1 0 + 2 * m → cond (not b) (1 + s) 0 < suc n
some-of true m s n rest some = omega arith
some-of false m s n rest some =
    let more : 0 < m = omega (arith, some) in
    omega (arith, rest more)

pub first-there : {X : Type 0} (p : X → Bool) (xs : List X) → 0 < marks_of (map p xs) → prefix_len (λ x. not (p x)) xs < length xs
first-there p [] some = absurd (omega (arith, some))
first-there p (x ∷ xs) some = some-of (p x) (marks_of (map p xs)) (prefix_len (λ x. not (p x)) xs) (length xs) (first-there p xs) some

pub lowest : {X : Type 0} (p : X → Bool) (xs : List X) → length xs ≤ 64 → 0 < marks_of (map p xs) → count_trailing_zeros 64 (marks_of (map p xs)) ≡ prefix_len (λ x. not (p x)) xs
lowest p xs few some =
    let same = marks_of-mask (map p xs) in
    ap (count_trailing_zeros 64) same ∙ trailing_mask_l p 64 xs few (subst (λ n. 0 < n) same some)

-- ---- rows that pass a test only where they are marked

module _ {X : Type 0} (p q : X → Bool) (fewer : (x : X) → q x ≡ true → p x ≡ true) (xs : List X) (i : ℕ) (d : X) where
  not-from : (b : Bool) → not b ≡ true → b ≡ false
  not-from true is = cc
  not-from false is = refl

  -- none of those that are passed does
  pub passed : (n : ℕ) → i + n ≤ length xs → n ≤ prefix_len (λ x. not (p x)) (drop i xs) → count_by q (take (i + n) xs) ≡ count_by q (take i xs)
  passed zero within unmarked = ap (λ k. count_by q (take k xs)) (omega arith)
  passed (suc n) within unmarked =
      let place = i + n in
      let next : i + suc n ≡ place + 1 = omega arith in
      let free : p (get_or xs place d) ≡ false =
      ap p (sym (get_or-drop i xs n d)) ∙ not-from (p (get_or (drop i xs) n d)) (prefix_len_passes (λ x. not (p x)) (drop i xs) n d (omega (arith, unmarked))) in
      let fails : q (get_or xs place d) ≡ false = false_from_ne_true (q (get_or xs place d)) (λ is. true≢false (sym (fewer (get_or xs place d) is) ∙ free)) in
      ap (λ k. count_by q (take k xs)) next ∙ count_by_more_no q xs place d (omega (arith, within)) fails ∙ passed n (omega (arith, within)) (omega (arith, unmarked))

  -- and none does where no mark is left
  pub none-left : marks_of (map p (drop i xs)) ≡ 0 → count_by q (take i xs) ≡ count_by q xs
  unfolding lib.Count.ones
  none-left none =
      let rest : count_by q (drop i xs) ≡ 0 = sym (ones-marks_of q (drop i xs)) ∙ ap count_ones (none-marked p q (drop i xs) fewer none) in
      let whole : count_by q xs ≡ count_by q (take i xs) + count_by q (drop i xs) = ap (count_by q) (sym (take-append-drop i xs)) ∙ count-append q (take i xs) (drop i xs) in
      omega (arith, rest, whole)

-- ---- the marks that are left at a place

module _ {X : Type 0} (p q : X → Bool) (fewer : (x : X) → q x ≡ true → p x ≡ true) (xs : List X) (few : length xs ≤ 64) (marks left i : ℕ) (are : marks ≡ marks_of (map p xs)) (is : left ≡ marks / 2 ^ i) where
  rest : left ≡ marks_of (map p (drop i xs))
  rest = is ∙ ap (λ m. m / 2 ^ i) are ∙ shifted p xs i

  -- none at all
  pub ended : X → left ≡ 0 → count_by q (take i xs) ≡ count_by q xs
  ended d none = none-left p q fewer xs i d (sym rest ∙ none)

  module _ (some : left ≡ 0 → ⊥) where
    over-zero : 0 < left
    over-zero = omega (arith, some)

    marked : 0 < marks_of (map p (drop i xs))
    marked = subst (λ m. 0 < m) rest over-zero

    next : count_trailing_zeros 64 left ≡ prefix_len (λ x. not (p x)) (drop i xs)
    next = ap (count_trailing_zeros 64) rest ∙ lowest p (drop i xs) (omega (arith, few, length-drop i xs)) marked

    -- the lowest is that of a row
    pub there : i + count_trailing_zeros 64 left < length xs
    there = omega (arith, next, first-there p (drop i xs) marked, length-drop i xs)

    -- before it none passes
    pub before : X → count_by q (take (i + count_trailing_zeros 64 left) xs) ≡ count_by q (take i xs)
    before d = passed p q fewer xs i d (count_trailing_zeros 64 left) (omega (arith, there)) (omega (arith, next))

    -- and behind it so many marks are left
    pub behind : left / 2 ^ count_trailing_zeros 64 left / 2 ≡ marks / 2 ^ (i + count_trailing_zeros 64 left + 1)
    behind =
        let s = count_trailing_zeros 64 left in
        let power : 2 ^ i * 2 ^ s * 2 ≡ 2 ^ (i + s + 1) = ap (λ m. m * 2) (sym (pow-add 2 i s)) ∙ sym (pow-add 2 (i + s) 1) in
        ap (λ m. m / 2 ^ s / 2) is ∙ ap (λ m. m / 2) (div-div-eq-div-mul marks (2 ^ i) (2 ^ s)) ∙ div-div-eq-div-mul marks (2 ^ i * 2 ^ s) 2 ∙ ap (λ m. marks / m) power
