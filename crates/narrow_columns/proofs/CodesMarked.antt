-- Counting and marking codes, some after the others.
use Rattle.std.proofs.Common.{◌≡◌, ℕ, zero, suc, ◌+◌, ◌*◌, ◌/◌, ◌%◌, ◌<◌, ◌≤◌, ◌^◌, Bool, true, false, cond, List, [], ◌∷◌, length, map, take, drop, get_or, All, refl, sym, ap, ◌∙◌, arith}
use lib.Count.{ones}
use lib.Lanes.{mask_l}
use mir.Val.{bool_byte}
use Rattle.std.specs.List.{count_by}
use Rattle.std.proofs.Math.Seq.{drop-cons}
use Rattle.std.proofs.lemmas.Simd.{ones-mask_l, mask_l-lt}
use Rattle.std.proofs.lemmas.List.{take-take, drop-take, take_all, length-map, length-take, take-map, drop-map}
use Rattle.std.proofs.lemmas.Nat.{mod_low, mod_below, div-add-mod'}
use native.Mathlib.Nat.{two-pow-succ}
use lib.Pow.{pow_mono}
use Rattle.std.proofs.lemmas.List.Sums.{sum_by-take-drop}
use Rattle.narrow_columns.specs.Marks.{marks_of}
use Rattle.narrow_columns.proofs.BlockMarks.{marks_of-mask_l}

-- how many marks there are
pub ones-marks_of : (p : ℕ → Bool) (codes : List ℕ) → ones (marks_of (map p codes)) ≡ count_by p codes
ones-marks_of p codes = ap ones (sym (marks_of-mask_l (map p codes))) ∙ ones-mask_l p codes

-- so many more codes are counted
pub count_by-more : (p : ℕ → Bool) (first n : ℕ) (codes : List ℕ) → count_by p (take (first + n) codes) ≡ count_by p (take first codes) + count_by p (take n (drop first codes))
count_by-more p first n codes =
    let before = take-take first (first + n) codes (omega arith) in
    let after = drop-take first n codes in
    sym (sum_by-take-drop (λ code. cond (p code) 1 0) (take (first + n) codes) first) ∙ (λ i. count_by p (before i) + count_by p (after i))

-- the last codes are counted
pub count_by-last : (p : ℕ → Bool) (first n : ℕ) (codes : List ℕ) → first + n ≡ length codes → count_by p (take first codes) + count_by p (take n (drop first codes)) ≡ count_by p codes
count_by-last p first n codes all = sym (count_by-more p first n codes) ∙ ap (count_by p) (take_all (first + n) codes (omega arith))

-- a mark more, before the others
pub marks_of-more : (p : ℕ → Bool) (at n : ℕ) (codes : List ℕ) → at < length codes
    → 2 * marks_of (map p (take n (drop (suc at) codes))) + bool_byte (p (get_or codes at 0)) ≡ marks_of (map p (take (suc n) (drop at codes)))
marks_of-more p at n codes there =
    bit (p (get_or codes at 0)) (marks_of (map p (take n (drop (suc at) codes)))) ∙ sym (ap (λ l. marks_of (map p (take (suc n) l))) (drop-cons codes at 0 there))
  where
    bit : (b : Bool) (m : ℕ) → 2 * m + bool_byte b ≡ cond b 1 0 + 2 * m
    bit true m = omega arith
    bit false m = omega arith

-- marks of so few codes fit their number
pub marks_of-lt : (p : ℕ → Bool) (codes : List ℕ) → marks_of (map p codes) < 2 ^ length codes
marks_of-lt p codes = omega (arith, marks_of-mask_l (map p codes), mask_l-lt (map p codes), ap (λ n. 2 ^ n) (length-map codes p))

-- marks of less than 64 codes leave a bit free
pub marks_of-few : (p : ℕ → Bool) (n : ℕ) (codes : List ℕ) → n < 64 → marks_of (map p (take n codes)) < 2 ^ 63
marks_of-few p n codes few =
    let long : length (take n codes) ≤ 63 = omega (arith, length-take n codes) in
    omega (arith, marks_of-lt p (take n codes), pow_mono {i = length (take n codes)} {j = 63} long)

two-pow-positive : (n : ℕ) → 0 < 2 ^ n
two-pow-positive n = omega (arith, pow_mono {i = 0} {j = n} (omega arith))

-- the first of some marks
pub marks_of-take : (marks : List Bool) (n : ℕ) → marks_of (take n marks) ≡ marks_of marks % 2 ^ n
marks_of-take marks zero = omega arith
marks_of-take [] (suc n) =
    let none : 0 * 2 ^ suc n + 0 ≡ 0 = omega arith in
    sym (mod_low 0 (suc n) 0 (two-pow-positive (suc n))) ∙ ap (λ k. k % 2 ^ suc n) none
marks_of-take (mark ∷ marks) (suc n) =
    let high = marks_of marks / 2 ^ n in
    let low = marks_of marks % 2 ^ n in
    let first : cond mark 1 0 < 2 = bit-lt mark in
    let fits : low < 2 ^ n = mod_below (marks_of marks) (2 ^ n) (two-pow-positive n) in
    let double : 2 ^ suc n ≡ 2 * 2 ^ n = omega (arith, two-pow-succ n) in
    let parts : cond mark 1 0 + 2 * marks_of marks ≡ high * 2 ^ suc n + (cond mark 1 0 + 2 * low) =
    rw double (omega (arith, div-add-mod' (marks_of marks) (2 ^ n))) in
    ap (λ k. cond mark 1 0 + 2 * k) (marks_of-take marks n)
    ∙ sym (mod_low high (suc n) (cond mark 1 0 + 2 * low) (omega (arith, double)))
    ∙ sym (ap (λ k. k % 2 ^ suc n) parts)
  where
    bit-lt : (b : Bool) → cond b 1 0 < 2
    bit-lt true = omega arith
    bit-lt false = omega arith

-- two tests that agree on all codes up to the greatest
pub map-same-below : (p q : ℕ → Bool) (top : ℕ) → ((code : ℕ) → code ≤ top → p code ≡ q code) → (codes : List ℕ) → All (λ code. code ≤ top) codes → map p codes ≡ map q codes
map-same-below p q top same [] fit = refl
map-same-below p q top same (code ∷ codes) fit =
    let here = same code (fit 0 0 (omega arith)) in
    let later = map-same-below p q top same codes (λ k d before. fit (suc k) d (omega arith)) in
    λ i. here i ∷ later i

pub count_by-same-below : (p q : ℕ → Bool) (top : ℕ) → ((code : ℕ) → code ≤ top → p code ≡ q code) → (codes : List ℕ) → All (λ code. code ≤ top) codes → count_by p codes ≡ count_by q codes
count_by-same-below p q top same codes fit = sym (ones-mask_l p codes) ∙ ap (λ marks. ones (mask_l marks)) (map-same-below p q top same codes fit) ∙ ones-mask_l q codes

-- the first marks of a block, by a test that agrees on all codes
pub marks_of-first : (p q : ℕ → Bool) (codes : List ℕ) → map p codes ≡ map q codes → (first count : ℕ) → count ≤ 64
    → marks_of (map q (take 64 (drop first codes))) % 2 ^ count ≡ marks_of (map p (take count (drop first codes)))
marks_of-first p q codes same first count few =
    let block = drop first codes in
    sym (marks_of-take (map q (take 64 block)) count)
    ∙ ap marks_of (take-map q count (take 64 block)
    ∙ ap (map q) (take-take count 64 block few)
    ∙ sym (take-map q count block)
    ∙ ap (take count) (sym (drop-map q first codes) ∙ ap (drop first) (sym same) ∙ drop-map p first codes)
    ∙ take-map p count block)
