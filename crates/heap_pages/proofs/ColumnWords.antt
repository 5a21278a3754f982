-- The words of one column, and the columns of a table when one of them changes.
use Rattle.std.proofs.Common.{inl, inr, ◌≡◌, ◌≢◌, ℕ, zero, suc, ℤ, pos, ◌+◌, ◌*◌, ◌<◌, ◌≤◌, All, FitsSigned, w64, List, [], ◌∷◌, ◌++◌, length, map, take, drop, set, get_or, slice_get, Some, refl, sym, ap, subst, ◌∙◌, arith}
use Rattle.std.specs.Prelude.{count_by, count_ones}
use Rattle.std.proofs.lemmas.Bool.{cases_eq}
use Rattle.std.proofs.lemmas.Int.{ints}
use Rattle.std.proofs.lemmas.List.{nil_from_length, drop-append-le, length-drop, get_or-set_same, get_or-set_other, get_or_append_left, get_or-take, get_or-drop, take-map, drop-map, drop-drop, length-append, get_or-append-add}
use Rattle.std.proofs.lemmas.List.Elements.{All-append, All-weaker}
use Rattle.std.proofs.lemmas.Option.{get_or_from_slice_get, slice_get_within}
use Rattle.narrow_columns.specs.Codes.{IsWithin}
use Rattle.narrow_columns.specs.Kept.{ColumnState, IsTaken}
use Rattle.narrow_columns.specs.Marks.{is_among, marks_of}
use Rattle.narrow_columns.specs.Rows.{words_of_column}
use Rattle.heap_pages.specs.Rows.{cut_rows}
use Rattle.narrow_columns.specs.declared.extent.Extent.{Extent}
use Rattle.heap_pages.specs.Columns.{AreColumnsOf, HasRoomFor, IsWiderThan, with_words}
use Rattle.heap_pages.specs.Spans.{HaveColumnWords, column_word, has_among, rows_of_span}
use Rattle.heap_pages.specs.declared.spans.RowSpan.{RowSpan}
use Rattle.heap_pages.proofs.MarkedRows.{ones-marks_of}
use Rattle.heap_pages.proofs.CutRows.{length-cut_rows, row_end, slice_get-cut_rows}

-- there is a word for each row
pub length-words_of_column : (width place n : ℕ) (words : List ℤ) → length (words_of_column width place n words) ≡ n
length-words_of_column width place zero words = refl
length-words_of_column width place (suc n) words = ap suc (length-words_of_column width place n (drop width words))

-- the words of rows behind rows
pub words_of_column-append : (width place m n : ℕ) (words more : List ℤ) → place < width → length words ≡ m * width
    → words_of_column width place (m + n) (words ++ more) ≡ words_of_column width place m words ++ words_of_column width place n more
words_of_column-append width place zero n words more inside filled =
    let none : words ≡ [] = nil_from_length words (omega (arith, filled)) in
    rw none (ap (λ k. words_of_column width place k more) (omega arith))
words_of_column-append width place (suc m) n words more inside filled =
    let enough : width ≤ length words = omega (arith, filled) in
    let others : length (drop width words) ≡ m * width = simp length-drop (omega (arith, filled)) in
    let count : suc m + n ≡ suc (m + n) = omega arith in
    let first : get_or (words ++ more) place (pos 0) ≡ get_or words place (pos 0) = get_or_append_left words more (pos 0) place (omega (arith, inside, enough)) in
    ap (λ k. words_of_column width place k (words ++ more)) count
    ∙ (λ i. first i ∷ words_of_column width place (m + n) (drop-append-le width words more enough i))
    ∙ ap (λ ws. get_or words place (pos 0) ∷ ws) (words_of_column-append width place m n (drop width words) more inside others)

-- the words of some rows, and of those behind them
pub words_of_column-split : (width place m n : ℕ) (words : List ℤ) → words_of_column width place (m + n) words ≡ words_of_column width place m words ++ words_of_column width place n (drop (m * width) words)
words_of_column-split width place zero n words =
    let none : 0 * width ≡ 0 = omega arith in
    ap (λ k. words_of_column width place k words) (omega arith) ∙ ap (λ k. words_of_column width place n (drop k words)) (sym none)
words_of_column-split width place (suc m) n words =
    let count : suc m + n ≡ suc (m + n) = omega arith in
    let begin : width + m * width ≡ suc m * width = omega arith in
    let rest : drop (m * width) (drop width words) ≡ drop (suc m * width) words = drop-drop (m * width) width words ∙ ap (λ k. drop k words) begin in
    ap (λ k. words_of_column width place k words) count
    ∙ ap (λ ws. get_or words place (pos 0) ∷ ws) (words_of_column-split width place m n (drop width words) ∙ ap (λ ws. words_of_column width place m (drop width words) ++ words_of_column width place n ws) rest)

-- they are among some where the rows are
pub words_of_column-among : (from to : ℤ) (width place n : ℕ) (words : List ℤ) → place < width → n * width ≤ length words
    → map (is_among from to) (words_of_column width place n words) ≡ map (has_among place from to) (cut_rows width n words)
words_of_column-among from to width place zero words inside filled = refl
words_of_column-among from to width place (suc n) words inside filled =
    let enough : width ≤ length words = omega (arith, filled) in
    let others : n * width ≤ length (drop width words) = simp length-drop (omega (arith, filled)) in
    let first : get_or words place (pos 0) ≡ column_word place (take width words) = sym (get_or-take width words place (pos 0) inside) in
    (λ i. is_among from to (first i) ∷ words_of_column-among from to width place n (drop width words) inside others i)

-- so it is in a span
pub span-among : (from to : ℤ) (width place n : ℕ) (words : List ℤ) (span : RowSpan) → place < width → n * width ≤ length words
    → map (is_among from to) (take span.count (drop span.first (words_of_column width place n words))) ≡ map (has_among place from to) (rows_of_span span (cut_rows width n words))
span-among from to width place n words span inside filled =
    let col = words_of_column width place n words in
    let rows = cut_rows width n words in
    sym (take-map (is_among from to) span.count (drop span.first col))
    ∙ ap (take span.count) (sym (drop-map (is_among from to) span.first col) ∙ ap (drop span.first) (words_of_column-among from to width place n words inside filled) ∙ drop-map (has_among place from to) span.first rows)
    ∙ take-map (has_among place from to) span.count (drop span.first rows)

-- and as many are
pub count-among : (from to : ℤ) (width place n : ℕ) (words : List ℤ) → place < width → n * width ≤ length words
    → count_by (is_among from to) (words_of_column width place n words) ≡ count_by (has_among place from to) (cut_rows width n words)
count-among from to width place n words inside filled =
    sym (ones-marks_of (is_among from to) (words_of_column width place n words))
    ∙ ap (λ marks. count_ones (marks_of marks)) (words_of_column-among from to width place n words inside filled)
    ∙ ones-marks_of (has_among place from to) (cut_rows width n words)

-- a column that is there has the words of its number
pub kept-words : (width rows number : ℕ) (words : List ℤ) (columns : List ColumnState) (column : ColumnState) → AreColumnsOf width rows words columns → slice_get columns number ≡ Some column
    → column.words ≡ words_of_column width number rows words
kept-words width rows number words columns column are is =
    sym (ap (λ (c : ColumnState). c.words) (get_or_from_slice_get columns number column column is))
    ∙ are.each number column (slice_get_within columns number column is)

-- what holds of all holds of the front, and of the rest
All-left : {X : Type 0} (P : X → Type 0) (xs ys : List X) → All P (xs ++ ys) → All P xs
All-left P xs ys all k d below =
    subst P (get_or_append_left xs ys d k below) (all k d (omega (arith, below, length-append xs ys)))

All-right : {X : Type 0} (P : X → Type 0) (xs ys : List X) → All P (xs ++ ys) → All P ys
All-right P xs ys all k d below =
    subst P (get_or-append-add xs ys k d) (all (length xs + k) d (omega (arith, below, length-append xs ys)))

-- room for the words of some rows, and, once these are there, for those behind them
module _ (width number m n : ℕ) (words : List ℤ) (column : ColumnState) (has : HasRoomFor (words_of_column width number (m + n) words) column) where
  parts : words_of_column width number (m + n) words ≡ words_of_column width number m words ++ words_of_column width number n (drop (m * width) words)
  parts = words_of_column-split width number m n words

  pub room-front : HasRoomFor (words_of_column width number m words) column
  room-front = record {
    room = omega (arith, has.room, length-words_of_column width number (m + n) words, length-words_of_column width number m words);
    taken = All-left (IsTaken column) (words_of_column width number m words) (words_of_column width number n (drop (m * width) words)) (subst (All (IsTaken column)) parts has.taken);
  }

  pub room-rest : HasRoomFor (words_of_column width number n (drop (m * width) words)) (with_words (words_of_column width number m words) column)
  room-rest = record {
    room = omega (arith, has.room, length-words_of_column width number (m + n) words, length-words_of_column width number m words, length-words_of_column width number n (drop (m * width) words));
    taken = All-right (IsTaken column) (words_of_column width number m words) (words_of_column width number n (drop (m * width) words)) (subst (All (IsTaken column)) parts has.taken);
  }

-- what lies within an extent lies within a wider one
within-wider : (other extent : Extent) → IsWiderThan other extent → (word : ℤ) → IsWithin other.least other.greatest word → IsWithin extent.least extent.greatest word
within-wider other extent wider word within some =
    let both = within some in
    (omega (arith, ints, wider.below, both.0), omega (arith, ints, wider.above, both.1))

-- an extent of some rows, and of those behind them
pub extent-more : (width number m n : ℕ) (words : List ℤ) (other extent : Extent) → IsWiderThan other extent → All (IsWithin other.least other.greatest) (words_of_column width number m words)
    → All (IsWithin extent.least extent.greatest) (words_of_column width number n (drop (m * width) words)) → All (IsWithin extent.least extent.greatest) (words_of_column width number (m + n) words)
extent-more width number m n words other extent wider front rest =
    let P = IsWithin extent.least extent.greatest in
    subst (All P) (sym (words_of_column-split width number m n words))
    (All-append P (words_of_column width number m words) (words_of_column width number n (drop (m * width) words))
    (All-weaker (IsWithin other.least other.greatest) P (within-wider other extent wider) (words_of_column width number m words) front) rest)

-- rows of words of 64 bits have such words in a column
pub column-fits : (width place n : ℕ) (words : List ℤ) → place < width → n * width ≤ length words → All (FitsSigned w64) words → HaveColumnWords place (cut_rows width n words)
column-fits width place n words inside filled fit k d below =
    let there : k < n = omega (arith, below, length-cut_rows width n words) in
    let row : get_or (cut_rows width n words) k d ≡ take width (drop (k * width) words) =
    get_or_from_slice_get (cut_rows width n words) k (take width (drop (k * width) words)) d (slice_get-cut_rows width n k words there) in
    let word : column_word place (get_or (cut_rows width n words) k d) ≡ get_or words (k * width + place) (pos 0) =
    ap (column_word place) row ∙ get_or-take width (drop (k * width) words) place (pos 0) inside ∙ get_or-drop (k * width) words place (pos 0) in
    subst (FitsSigned w64) (sym word) (fit (k * width + place) (pos 0) (omega (arith, inside, filled, row_end k n width there)))

-- one element changes: what holds of the new one and of the others holds of each
pub each-set : {X : Type 0} (P : ℕ → X → Type 0) (xs : List X) (n : ℕ) (x : X) (number : ℕ) (d : X) → n < length xs → P n x → (number ≢ n → P number (get_or xs number d))
    → P number (get_or (set xs n x) number d)
each-set P xs n x number d below here others =
    elim (cases_eq number n) [
      | inl same ↦ subst (λ k. P k (get_or (set xs n x) k d)) (sym same) (subst (P n) (sym (get_or-set_same xs n x d below)) here)
      | inr other ↦ subst (P number) (sym (get_or-set_other xs n number x d other)) (others other)
    ]
