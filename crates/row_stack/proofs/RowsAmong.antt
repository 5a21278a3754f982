-- The rows among words that follow one another.
use Rattle.std.proofs.Common.{◌≡◌, ℕ, ◌+◌, ◌-◌, ◌*◌, ◌^◌, ◌<◌, ◌≤◌, List, [], ◌∷◌, ◌++◌, length, take, drop, get_or, Some, ap, sym, ◌∙◌, arith, zero-add}
use Rattle.std.specs.Prelude.{ℤ, slice_get, All}
use Rattle.std.specs.Fork.{slice_chunk}
use Rattle.std.proofs.lemmas.List.{take_all, take-take, take-append-le, drop-append-le, drop-take, length-take-le, length-drop}
use Rattle.std.proofs.lemmas.List.FromFn.{length-map-range_with_len, get_or-map-range_with_len, take-map-range_with_len, map-range_with_len_more, fill_by_all}
use Rattle.std.proofs.lemmas.List.Elements.{All-from_get_or}
use Rattle.std.proofs.lemmas.Option.{slice_get-get_or}
use Rattle.std.proofs.Math.Seq.{drop-append_seam}
use Rattle.std.proofs.ptr.Rows.{add_times}
use native.Mathlib.Nat.{one-mul}
use lib.ListN.{length-append}
use Rattle.row_stack.specs.Packed.{rows_among}
use Rattle.row_stack.proofs.Places.{row_end, fewer_words, rows_in_words}

-- there are as many as were asked for
pub length-rows_among : (width n : ℕ) (words : List ℤ) → length (rows_among width n words) ≡ n
length-rows_among width n words = length-map-range_with_len (slice_chunk words width) 0 n

get_or-rows_among : (width n i : ℕ) (words : List ℤ) → i < n → get_or (rows_among width n words) i [] ≡ slice_chunk words width i
get_or-rows_among width n i words below = get_or-map-range_with_len (slice_chunk words width) 0 n i i [] below (zero-add i)

-- row i is what stands at its place
pub slice_get-rows_among : (width n i : ℕ) (words : List ℤ) → i < n → slice_get (rows_among width n words) i ≡ Some (take width (drop (i * width) words))
slice_get-rows_among width n i words below =
    slice_get-get_or (rows_among width n words) i [] (rw length-rows_among below)
    ∙ ap Some (get_or-rows_among width n i words below)

-- words that agree in each of n rows have the same n rows
same_rows : (width n : ℕ) (words others : List ℤ) → ((i : ℕ) → i < n → slice_chunk words width i ≡ slice_chunk others width i) → rows_among width n words ≡ rows_among width n others
same_rows width n words others same =
    fill_by_all (slice_chunk others width) (rows_among width n words) n [] (length-rows_among width n words)
    (λ i below. get_or-rows_among width n i words below ∙ same i below)

-- a row at the end of the words is a row at the end of the rows
append_row : (width n : ℕ) (words row : List ℤ) → length words ≡ n * width → length row ≡ width → rows_among width (n + 1) (words ++ row) ≡ rows_among width n words ++ row ∷ []
append_row width n words row filled wide =
    map-range_with_len_more (slice_chunk (words ++ row) width) 0 n n (zero-add n)
    ∙ ap (λ rows. rows ++ slice_chunk (words ++ row) width n ∷ []) (same_rows width n (words ++ row) words before)
    ∙ ap (λ last. rows_among width n words ++ last ∷ []) at_end
  where
    before : (i : ℕ) → i < n → slice_chunk (words ++ row) width i ≡ slice_chunk words width i
    before i below =
        let ends = row_end i n width below in
        ap (take width) (drop-append-le (i * width) words row (omega (arith, filled, ends)))
        ∙ take-append-le width (drop (i * width) words) row (simp length-drop (omega (arith, filled, ends)))

    at_end : slice_chunk (words ++ row) width n ≡ row
    at_end =
        ap (λ k. take width (drop k (words ++ row))) (sym filled)
        ∙ ap (take width) (drop-append_seam words row)
        ∙ take_all width row (omega (arith, wide))

-- the rows are those of the words up to their end
pub rows_among-take : (width n : ℕ) (words : List ℤ) → rows_among width n (take (n * width) words) ≡ rows_among width n words
rows_among-take width n words = same_rows width n (take (n * width) words) words within
  where
    within : (i : ℕ) → i < n → slice_chunk (take (n * width) words) width i ≡ slice_chunk words width i
    within i below =
        let more : ℕ = n * width - i * width in
        let ends = row_end i n width below in
        let whole : n * width ≡ i * width + more = omega (arith, ends) in
        ap (λ k. take width (drop (i * width) (take k words))) whole
        ∙ ap (take width) (drop-take (i * width) more words)
        ∙ take-take width more (drop (i * width) words) (omega (arith, ends))

-- a row after the words of n rows is row n
pub rows_among-append : (width n : ℕ) (words row : List ℤ) → n * width ≤ length words → length row ≡ width → rows_among width (n + 1) (take (n * width) words ++ row) ≡ rows_among width n words ++ row ∷ []
rows_among-append width n words row filled wide =
    append_row width n (take (n * width) words) row (length-take-le (n * width) words filled) wide
    ∙ ap (λ rows. rows ++ row ∷ []) (rows_among-take width n words)

-- the first rows
pub take-rows_among : (width n to : ℕ) (words : List ℤ) → to ≤ n → rows_among width to words ≡ take to (rows_among width n words)
take-rows_among width n to words few = sym (take-map-range_with_len (slice_chunk words width) 0 n to few)

-- a row has the width
pub length-row : (width n i : ℕ) (words : List ℤ) → i < n → n * width ≤ length words → length (take width (drop (i * width) words)) ≡ width
length-row width n i words below filled = length-take-le width (drop (i * width) words) (simp length-drop (omega (arith, filled, row_end i n width below)))

-- each row has the width
pub All-rows_among : (width n : ℕ) (words : List ℤ) → n * width ≤ length words → All (λ row. length row ≡ width) (rows_among width n words)
All-rows_among width n words filled =
    All-from_get_or (λ row. length row ≡ width) (rows_among width n words) [] (λ i there. one i (rw length-rows_among at there))
  where
    one : (i : ℕ) → i < n → length (get_or (rows_among width n words) i []) ≡ width
    one i below =
        rw get_or-rows_among
        (length-row width n i words below filled)

-- rows and spare rows together are what the memory has room for
pub length-rows_among-spare : (width n room capacity : ℕ) (words : List ℤ) → n ≤ room → capacity ≡ room * width → 1 ≤ width → capacity < 2 ^ 63 → length (rows_among width n words) + (room - n) < 2 ^ 63
length-rows_among-spare width n room capacity words there fits some small =
    let all : room * width ≤ capacity = omega (arith, fits) in omega (arith, length-rows_among width n words, rows_in_words room width capacity all some)

-- the words of one row more are written
pub with_row : (width n : ℕ) (words row : List ℤ) → n * width ≤ length words → length row ≡ width → (n + 1) * width ≤ length (take (n * width) words ++ row)
with_row width n words row filled wide =
    let long : length (take (n * width) words ++ row) ≡ n * width + width =
    length-append (take (n * width) words) row ∙ (λ i. length-take-le (n * width) words filled i + wide i) in
    omega (arith, long, add_times n 1 width, one-mul width)

pub ruleset of_rows = (length-rows_among, slice_get-rows_among, rows_among-append, rows_among-take, take-rows_among, length-row, All-rows_among, length-rows_among-spare, with_row, row_end, fewer_words, rows_in_words)
