-- Words that follow one another, cut into rows.
use Rattle.std.proofs.Common.{◌≡◌, ℕ, zero, suc, ◌+◌, ◌-◌, ◌*◌, ◌<◌, ◌≤◌, List, [], ◌∷◌, ◌++◌, length, take, drop, Some, refl, sym, ap, ◌∙◌, arith, add-one}
use Rattle.std.specs.Prelude.{ℤ, slice_get}
use Rattle.std.proofs.Math.Nat.{mul-le-mul_right}
use Rattle.std.proofs.lemmas.List.{nil_from_length, take_all, take-append-le, take-take, drop-append-le, drop-drop, drop-take, length-drop, length-take}
use Rattle.heap_pages.specs.Rows.{cut_rows}

-- there are as many rows as were asked for
pub length-cut_rows : (width n : ℕ) (words : List ℤ) → length (cut_rows width n words) ≡ n
length-cut_rows width zero words = refl
length-cut_rows width (suc n) words = ap suc (length-cut_rows width n (drop width words))

-- a row ends where the rows up to it end
pub row_end : (i n width : ℕ) → i < n → i * width + width ≤ n * width
row_end i n width below = grind arith

-- row i is what stands at its place among the words
pub slice_get-cut_rows : (width n i : ℕ) (words : List ℤ) → i < n → slice_get (cut_rows width n words) i ≡ Some (take width (drop (i * width) words))
slice_get-cut_rows width zero i words below = absurd (omega arith)
slice_get-cut_rows width (suc n) zero words below = let none : 0 * width ≡ 0 = omega arith in rw none refl
slice_get-cut_rows width (suc n) (suc i) words below =
    let place : width + i * width ≡ suc i * width = omega arith in
    slice_get-cut_rows width n i (drop width words) (omega arith)
    ∙ ap (λ (ws : List ℤ). Some (take width ws)) (drop-drop (i * width) width words ∙ ap (λ k. drop k words) place)

-- so it is of the words of some rows that follow one another, cut out
pub slice_get-part : (width n first count slot : ℕ) (words part : List ℤ) → part ≡ take (count * width) (drop (first * width) words) → slot < count → first + count ≤ n
    → slice_get (cut_rows width n words) (first + slot) ≡ Some (take width (drop (slot * width) part))
slice_get-part width n first count slot words part is below there =
    let from = drop (first * width) words in
    let left = count - slot in
    let more = left * width in
    let some : 1 * width ≤ left * width = mul-le-mul_right width (omega (arith, below)) in
    let enough : width ≤ more = omega (arith, some) in
    let all : count ≡ slot + left = omega (arith, below) in
    let parts : (slot + left) * width ≡ slot * width + left * width = grind arith in
    let whole : count * width ≡ slot * width + more = ap (λ k. k * width) all ∙ parts in
    let place : first * width + slot * width ≡ (first + slot) * width = grind arith in
    slice_get-cut_rows width n (first + slot) words (omega (arith, below, there))
    ∙ ap Some (sym (
    ap (λ ws. take width (drop (slot * width) ws)) (is ∙ ap (λ k. take k from) whole)
    ∙ ap (take width) (drop-take (slot * width) more from)
    ∙ take-take width more (drop (slot * width) from) enough
    ∙ ap (take width) (drop-drop (slot * width) (first * width) words ∙ ap (λ k. drop k words) place)
    ))

one_more : (width n : ℕ) (words row : List ℤ) → length words ≡ n * width → length row ≡ width → cut_rows width (suc n) (words ++ row) ≡ cut_rows width n words ++ row ∷ []
one_more width zero words row filled wide =
    let none : words ≡ [] = nil_from_length words (omega (arith, filled)) in
    rw none (ap (λ r. r ∷ []) (take_all width row (omega (arith, wide))))
one_more width (suc n) words row filled wide =
    let enough : width ≤ length words = omega (arith, filled) in
    let others : length (drop width words) ≡ n * width = simp length-drop (omega (arith, filled)) in
    (λ i. take-append-le width words row enough i ∷ cut_rows width (suc n) (drop-append-le width words row enough i))
    ∙ ap (λ rs. take width words ∷ rs) (one_more width n (drop width words) row others wide)

-- a row at the end of the words is a row at the end of the rows
pub cut_rows-append : (width n : ℕ) (words row : List ℤ) → length words ≡ n * width → length row ≡ width → cut_rows width (n + 1) (words ++ row) ≡ cut_rows width n words ++ row ∷ []
cut_rows-append width n words row filled wide = rw add-one (one_more width n words row filled wide)

-- rows behind rows are the rows of the words behind the words
pub cut_rows-append_all : (width m n : ℕ) (words more : List ℤ) → length words ≡ m * width → cut_rows width (m + n) (words ++ more) ≡ cut_rows width m words ++ cut_rows width n more
cut_rows-append_all width zero n words more filled =
    let none : words ≡ [] = nil_from_length words (omega (arith, filled)) in
    rw none (ap (λ k. cut_rows width k more) (omega arith))
cut_rows-append_all width (suc m) n words more filled =
    let enough : width ≤ length words = omega (arith, filled) in
    let others : length (drop width words) ≡ m * width = simp length-drop (omega (arith, filled)) in
    let count : suc m + n ≡ suc (m + n) = omega arith in
    ap (λ k. cut_rows width k (words ++ more)) count
    ∙ (λ i. take-append-le width words more enough i ∷ cut_rows width (m + n) (drop-append-le width words more enough i))
    ∙ ap (λ rs. take width words ∷ rs) (cut_rows-append_all width m n (drop width words) more others)

-- each row is as wide as the table
pub cut_row-wide : (width n i : ℕ) (words row : List ℤ) → length words ≡ n * width → i < n → slice_get (cut_rows width n words) i ≡ Some row → length row ≡ width
cut_row-wide width n i words row filled below is =
    let same : Some (take width (drop (i * width) words)) ≡ Some row = sym (slice_get-cut_rows width n i words below) ∙ is in
    let parts : take width (drop (i * width) words) ≡ row = cc same in
    sym (ap length parts) ∙ omega (arith, length-take width (drop (i * width) words), length-drop (i * width) words, row_end i n width below, filled)
