-- The words of a column in rows, one row after the other.
use Rattle.std.proofs.Common.{◌≡◌, ℕ, zero, suc, ◌+◌, ◌*◌, ◌<◌, ℤ, pos, List, [], ◌∷◌, ◌++◌, length, drop, slice_index_or, All, refl, sym, ap, subst, ◌∙◌, arith}
use Rattle.std.proofs.lemmas.List.{get_or-drop, drop-drop}
use Rattle.narrow_columns.specs.Rows.{words_of_column}

-- the word at one place of a later row
later : (width place n : ℕ) (words : List ℤ) → slice_index_or (drop width words) (n * width + place) (pos 0) ≡ slice_index_or words (suc n * width + place) (pos 0)
later width place n words =
    let at : width + (n * width + place) ≡ suc n * width + place = omega arith in
    get_or-drop width words (n * width + place) (pos 0) ∙ ap (λ k. slice_index_or words k (pos 0)) at

one_more : (width place n : ℕ) (words : List ℤ) → words_of_column width place (suc n) words ≡ words_of_column width place n words ++ slice_index_or words (n * width + place) (pos 0) ∷ []
one_more width place zero words =
    let at : place ≡ 0 * width + place = omega arith in
    ap (λ k. slice_index_or words k (pos 0) ∷ []) at
one_more width place (suc n) words =
    ap (λ l. slice_index_or words place (pos 0) ∷ l)
    (one_more width place n (drop width words) ∙ ap (λ word. words_of_column width place n (drop width words) ++ word ∷ []) (later width place n words))

-- one row more
pub words_of_column-more : (width place n : ℕ) (words : List ℤ) → words_of_column width place (n + 1) words ≡ words_of_column width place n words ++ slice_index_or words (n * width + place) (pos 0) ∷ []
words_of_column-more width place n words =
    let next : n + 1 ≡ suc n = omega arith in
    ap (λ k. words_of_column width place k words) next ∙ one_more width place n words

-- each row has one word of a column
pub length-words_of_column : (width place n : ℕ) (words : List ℤ) → length (words_of_column width place n words) ≡ n
length-words_of_column width place zero words = refl
length-words_of_column width place (suc n) words = ap suc (length-words_of_column width place n (drop width words))

-- the word of one row
pub get_or-words_of_column : (width place n : ℕ) (words : List ℤ) (row : ℕ) → row < n → slice_index_or (words_of_column width place n words) row (pos 0) ≡ slice_index_or words (row * width + place) (pos 0)
get_or-words_of_column width place zero words row before = absurd (omega arith)
get_or-words_of_column width place (suc n) words zero before =
    let at : place ≡ 0 * width + place = omega arith in
    ap (λ k. slice_index_or words k (pos 0)) at
get_or-words_of_column width place (suc n) words (suc row) before = get_or-words_of_column width place n (drop width words) row (omega arith) ∙ later width place row words

-- what is true of all words of a column is true of that of one row
pub All-words_of_column : (P : ℤ → Type 0) (width place n : ℕ) (words : List ℤ) → All P (words_of_column width place n words) → (row : ℕ) → row < n → P (slice_index_or words (row * width + place) (pos 0))
All-words_of_column P width place n words all row before =
    subst P (get_or-words_of_column width place n words row before) (all row (pos 0) (omega (arith, length-words_of_column width place n words)))

-- the words of a column in rows and in the rows after them
pub words_of_column-append : (width place m n : ℕ) (words : List ℤ)
    → words_of_column width place (m + n) words ≡ words_of_column width place m words ++ words_of_column width place n (drop (m * width) words)
words_of_column-append width place zero n words =
    let none : 0 * width ≡ 0 = omega arith in
    let all : 0 + n ≡ n = omega arith in
    ap (λ k. words_of_column width place k words) all ∙ sym (ap (λ k. words_of_column width place n (drop k words)) none)
words_of_column-append width place (suc m) n words =
    let more : suc m + n ≡ suc (m + n) = omega arith in
    let at : width + m * width ≡ suc m * width = omega arith in
    ap (λ k. words_of_column width place k words) more
    ∙ ap (λ l. slice_index_or words place (pos 0) ∷ l)
    (words_of_column-append width place m n (drop width words)
    ∙ ap (λ l. words_of_column width place m (drop width words) ++ words_of_column width place n l) (drop-drop (m * width) width words ∙ ap (λ k. drop k words) at))
