-- Marks of rows, as the bits of one number: those of two conditions, how many they are, and how large the number is.
use Rattle.std.proofs.Common.{◌≡◌, ℕ, ◌+◌, ◌-◌, ◌*◌, ◌^◌, ◌<◌, ◌≤◌, ◌&&◌, ◌||◌, Bool, true, false, cond, List, [], ◌∷◌, length, map, take, drop, get_or, bit_and, bit_or, refl, sym, ap, ◌∙◌, arith}
use Rattle.std.specs.Prelude.{count_by, count_ones}
use Rattle.std.proofs.lemmas.List.{drop_more, get_or-take, get_or-drop, length-take, length-drop, length-map}
use Rattle.std.proofs.lemmas.List.Sums.{count_by_more_yes, count_by_more_no}
use Rattle.std.proofs.Math.Nat.{pow-le-pow_right}
use Rattle.std.proofs.lemmas.Nat.{and_block, or_block}
use Rattle.std.proofs.lemmas.Simd.{mask_l-lt, ones-mask_l}
use Rattle.std.specs.Simd.Lanes.{mask_l}
use Rattle.narrow_columns.specs.Marks.{marks_of}
use Rattle.heap_pages.specs.Spans.{rows_of_span}
use Rattle.heap_pages.specs.declared.spans.RowSpan.{RowSpan}

-- they are the mask of the same tests
pub marks_of-mask : (marks : List Bool) → marks_of marks ≡ mask_l marks
marks_of-mask [] = refl
marks_of-mask (mark ∷ marks) = ap (λ n. cond mark 1 0 + 2 * n) (marks_of-mask marks)

-- so many marks are less than the power of two of their number
pub marks_of-lt : (marks : List Bool) → marks_of marks < 2 ^ length marks
marks_of-lt marks = rw marks_of-mask (mask_l-lt marks)

-- as many bits are set as rows pass
pub ones-marks_of : {X : Type 0} (p : X → Bool) (xs : List X) → count_ones (marks_of (map p xs)) ≡ count_by p xs
ones-marks_of p xs = ap count_ones (marks_of-mask (map p xs)) ∙ ones-mask_l p xs

bit_of_both : (a b : Bool) → cond (a && b) 1 0 ≡ bit_and (cond a 1 0) (cond b 1 0)
bit_of_both true true = refl
bit_of_both true false = refl
bit_of_both false true = refl
bit_of_both false false = refl

bit_of_either : (a b : Bool) → cond (a || b) 1 0 ≡ bit_or (cond a 1 0) (cond b 1 0)
bit_of_either true true = refl
bit_of_either true false = refl
bit_of_either false true = refl
bit_of_either false false = refl

bit_small : (b : Bool) → cond b 1 0 < 2 ^ 1
bit_small true = omega arith
bit_small false = omega arith

-- a mark is one bit
pub mark-le : (b : Bool) → cond b 1 0 ≤ 1
mark-le true = omega arith
mark-le false = omega arith

-- where both conditions are asked, the marks are those that both have
pub marks_of-and : {X : Type 0} (p q : X → Bool) (xs : List X) → marks_of (map (λ x. p x && q x) xs) ≡ bit_and (marks_of (map p xs)) (marks_of (map q xs))
marks_of-and p q [] = refl
marks_of-and p q (x ∷ xs) =
    let a = marks_of (map p xs) in
    let b = marks_of (map q xs) in
    let r = cond (p x) 1 0 in
    let s = cond (q x) 1 0 in
    let first : r + 2 * a ≡ a * 2 ^ 1 + r = omega arith in
    let second : s + 2 * b ≡ b * 2 ^ 1 + s = omega arith in
    let last : cond (p x && q x) 1 0 + 2 * bit_and a b ≡ bit_and a b * 2 ^ 1 + bit_and r s = omega (arith, bit_of_both (p x) (q x)) in
    ap (λ n. cond (p x && q x) 1 0 + 2 * n) (marks_of-and p q xs) ∙ last
    ∙ sym (and_block 1 a b r s (bit_small (p x)) (bit_small (q x))) ∙ sym (ap (λ n. bit_and n (b * 2 ^ 1 + s)) first) ∙ sym (ap (bit_and (r + 2 * a)) second)

-- where one of them is enough, those that one of the two has
pub marks_of-or : {X : Type 0} (p q : X → Bool) (xs : List X) → marks_of (map (λ x. p x || q x) xs) ≡ bit_or (marks_of (map p xs)) (marks_of (map q xs))
marks_of-or p q [] = refl
marks_of-or p q (x ∷ xs) =
    let a = marks_of (map p xs) in
    let b = marks_of (map q xs) in
    let r = cond (p x) 1 0 in
    let s = cond (q x) 1 0 in
    let first : r + 2 * a ≡ a * 2 ^ 1 + r = omega arith in
    let second : s + 2 * b ≡ b * 2 ^ 1 + s = omega arith in
    let last : cond (p x || q x) 1 0 + 2 * bit_or a b ≡ bit_or a b * 2 ^ 1 + bit_or r s = omega (arith, bit_of_either (p x) (q x)) in
    ap (λ n. cond (p x || q x) 1 0 + 2 * n) (marks_of-or p q xs) ∙ last
    ∙ sym (or_block 1 a b r s (bit_small (p x)) (bit_small (q x))) ∙ sym (ap (λ n. bit_or n (b * 2 ^ 1 + s)) first) ∙ sym (ap (bit_or (r + 2 * a)) second)

-- the rows of a span from one of them on
pub drop-span : {X : Type 0} (span : RowSpan) (rows : List X) (k : ℕ) (d : X) → k < span.count → span.first + span.count ≤ length rows
    → drop k (rows_of_span span rows) ≡ get_or rows (span.first + k) d ∷ drop (k + 1) (rows_of_span span rows)
drop-span span rows k d below there =
    let from = drop span.first rows in
    let long : k < length (rows_of_span span rows) = omega (arith, below, there, length-take span.count from, length-drop span.first rows) in
    drop_more (rows_of_span span rows) k d long
    ∙ ap (λ x. x ∷ drop (k + 1) (rows_of_span span rows)) (get_or-take span.count from k d below ∙ get_or-drop span.first rows k d)

-- behind one of them there are fewer
pub length-drop-span : {X : Type 0} (span : RowSpan) (rows : List X) (k : ℕ) → length (drop k (rows_of_span span rows)) ≤ span.count - k
length-drop-span span rows k =
    omega (arith, length-drop k (rows_of_span span rows), length-take span.count (drop span.first rows))

-- fewer than 64 marks leave room for one more
pub marks_of-short : {X : Type 0} (p : X → Bool) (xs : List X) → length xs < 64 → marks_of (map p xs) < 2 ^ 63
marks_of-short p xs short =
    let more : 2 ^ length (map p xs) ≤ 2 ^ 63 = let within : length (map p xs) ≤ 63 = omega (arith, short, length-map xs p) in pow-le-pow_right (omega arith) within in
    omega (arith, marks_of-lt (map p xs), more)

-- a row more is counted
pub count-more : {X : Type 0} (p : X → Bool) (xs : List X) (i : ℕ) (d : X) → i < length xs → count_by p (take (i + 1) xs) ≡ count_by p (take i xs) + cond (p (get_or xs i d)) 1 0
count-more p xs i d below = by (p (get_or xs i d)) refl
  where
    by : (b : Bool) → p (get_or xs i d) ≡ b → count_by p (take (i + 1) xs) ≡ count_by p (take i xs) + cond b 1 0
    by true is = count_by_more_yes p xs i d below is
    by false is = count_by_more_no p xs i d below is ∙ omega arith
