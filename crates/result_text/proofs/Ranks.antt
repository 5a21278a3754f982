-- Rows of words compare as their values do, where each column's words do.
use Rattle.std.proofs.Common.{All, ◌≡◌, ◌≢◌, ℕ, ℤ, ◌-◌, ◌<◌, ◌≤◌, ◌≤ℤ◌, ◌<ℤ◌, pos, negsuc, cond, true, false, true≢false, List, [], ◌∷◌, ◌++◌, length, get_or, refl, sym, ap, ◌∙◌, subst, arith, length-append}
use Rattle.std.proofs.lemmas.Bool.Decides.{Decides-int_eq}
use Rattle.std.proofs.lemmas.Int.{ints}
use Rattle.std.proofs.lemmas.List.{get_or-append_right}
use Rattle.std.proofs.lemmas.List.Elements.{All-head, All-tail}
use Rattle.std.proofs.lemmas.Option.{unwrap_or-slice_get}
use Rattle.std.specs.List.{AllZip}
use Rattle.std.specs.Cmp.{int_cmp_is, int_ranks, tied_itself}
use Rattle.std.specs.Cmp.Lexicographic.{slice_cmp}
use Rattle.std.proofs.lemmas.Cmp.{nat_list_cmp_total}
use Rattle.std.specs.Ordering.{MatchOrdering, nat_cmp, int_cmp, int_eq, ordering_then, ordering_reverse}
use Rattle.std.specs.declared.cmp.Ordering.TheVariants.{Less, Equal, Greater}
use Rattle.sql_values.specs.declared.value.Value.{Value}
use Rattle.sql_values.specs.declared.value.Value.TheVariants as value
use Rattle.sql_values.specs.declared.column.ColumnType.{ColumnType}
use Rattle.sql_values.specs.declared.column.ColumnType.TheVariants.{Integer, Varchar}
use Rattle.sql_values.specs.Order.{value_cmp}
use Rattle.sql_values.specs.Words.{null_word, value_of, word_meaning}
use Rattle.result_text.specs.Order.{row_cmp, word_row_cmp}
use Rattle.result_text.specs.Ranks.{AreAscending, IsRankedWord}
use Rattle.result_text.specs.Rows.{WordRow, AreNumbers}
use Rattle.sql_values.specs.Stored.{values_of}

-- words of a column of this kind that are so compare as their values do
abbrev pub Ranks : (ColumnType → ℤ → Type 0) → List (List ℕ) → ColumnType → Type 0
Ranks P texts kind = (a b : ℤ) → null_word ≤ℤ a → null_word ≤ℤ b → P kind a → P kind b → value_cmp (value_of texts kind a) (value_of texts kind b) ≡ int_cmp a b

-- a word is NULL's, or stands for another value
pub value_cases : (P : Value → Type 0) (texts : List (List ℕ)) (kind : ColumnType) (word : ℤ) →
    (word ≡ null_word → P value.Null) → (word ≢ null_word → P (word_meaning texts kind word)) → P (value_of texts kind word)
value_cases P texts kind word null other =
    elim (int_eq word null_word) as (λ b. int_eq word null_word ≡ b → P (cond b value.Null (word_meaning texts kind word))) [
      | true ↦ λ e. null ((Decides-int_eq word null_word).0 e)
      | false ↦ λ e. other (λ same. true≢false (sym ((Decides-int_eq word null_word).1 same) ∙ e))
    ] refl

null_first : (texts : List (List ℕ)) (kind : ColumnType) (word : ℤ) → value_cmp value.Null (word_meaning texts kind word) ≡ Less
null_first texts Integer word = refl
null_first texts (Varchar most) word = refl

null_last : (texts : List (List ℕ)) (kind : ColumnType) (word : ℤ) → value_cmp (word_meaning texts kind word) value.Null ≡ Greater
null_last texts Integer word = refl
null_last texts (Varchar most) word = refl

-- NULL's word is the least, so only words other than it are left to compare
ranks_beside_null : (texts : List (List ℕ)) (kind : ColumnType) (a b : ℤ) → null_word ≤ℤ a → null_word ≤ℤ b →
    (a ≢ null_word → b ≢ null_word → value_cmp (word_meaning texts kind a) (word_meaning texts kind b) ≡ int_cmp a b) →
    value_cmp (value_of texts kind a) (value_of texts kind b) ≡ int_cmp a b
ranks_beside_null texts kind a b low low' both =
    value_cases (λ v. value_cmp v (value_of texts kind b) ≡ int_cmp a b) texts kind a
    (λ null. value_cases (λ w. value_cmp value.Null w ≡ int_cmp a b) texts kind b
    (λ null'. int_cmp_is a b Equal (null ∙ sym null'))
    (λ other'. null_first texts kind b ∙ int_cmp_is a b Less (let less : a <ℤ b = grind (arith, ints) in less)))
    (λ other. value_cases (λ w. value_cmp (word_meaning texts kind a) w ≡ int_cmp a b) texts kind b
    (λ null'. null_last texts kind a ∙ int_cmp_is a b Greater (let less : b <ℤ a = grind (arith, ints) in less))
    (λ other'. both other other'))

-- the words of an INTEGER column
pub Ranks-integer : (P : ColumnType → ℤ → Type 0) (texts : List (List ℕ)) (kind : ColumnType) → kind ≡ Integer → Ranks P texts kind
Ranks-integer P texts kind is = subst (Ranks P texts) (sym is) (λ a b low low' word word'. ranks_beside_null texts Integer a b low low' (λ other other'. refl))

module _ (known sorted : List (List ℕ)) (up : AreAscending sorted) where
  places_rank : (i j : ℕ) → length known ≤ i → length known ≤ j → i < length (known ++ sorted) → j < length (known ++ sorted) →
      slice_cmp nat_cmp (get_or (known ++ sorted) i []) (get_or (known ++ sorted) j []) ≡ int_cmp (pos i) (pos j)
  places_rank i j from from' in' in'' =
      let size = length-append known sorted in
      let texts = known ++ sorted in
      let at : (n : ℕ) → length known ≤ n → get_or texts n [] ≡ get_or sorted (n - length known) [] = λ n past. get_or-append_right known sorted (length known) n [] refl past in
      let less : (m n : ℕ) → length known ≤ m → m < n → n < length texts → slice_cmp nat_cmp (get_or texts m []) (get_or texts n []) ≡ Less = λ m n past less within.
      (λ k. slice_cmp nat_cmp (at m past k) (at n (omega arith) k)) ∙ up (m - length known) (n - length known) [] (omega arith) (omega (arith, size)) in
      elim (int_cmp (pos i) (pos j)) as (λ r. MatchOrdering r (pos i <ℤ pos j) (pos i ≡ pos j) (pos j <ℤ pos i) → slice_cmp nat_cmp (get_or texts i []) (get_or texts j []) ≡ r) [
        | Less ↦ λ is. less i j from (omega (arith, ints)) in''
        | Equal ↦ λ same. let one : i ≡ j = omega (arith, ints) in subst (λ k. slice_cmp nat_cmp (get_or texts i []) (get_or texts k []) ≡ Equal) one (tied_itself nat_list_cmp_total (get_or texts i []))
        | Greater ↦ λ greater. nat_list_cmp_total.antisymm (get_or texts i []) (get_or texts j []) ∙ ap ordering_reverse (less j i from' (omega (arith, ints)) in')
      ] (int_ranks (pos i) (pos j))

  texts_rank : (most : ℕ) (a b : ℤ) → IsRankedWord known sorted (Varchar most) a → IsRankedWord known sorted (Varchar most) b → a ≢ null_word → b ≢ null_word →
      value_cmp (word_meaning (known ++ sorted) (Varchar most) a) (word_meaning (known ++ sorted) (Varchar most) b) ≡ int_cmp a b
  texts_rank most (pos i) (pos j) word word' other other' =
      (λ k. slice_cmp nat_cmp (unwrap_or-slice_get (known ++ sorted) i [] k) (unwrap_or-slice_get (known ++ sorted) j [] k)) ∙ places_rank i j word.0 word'.0 word.1 word'.1
  texts_rank most (pos i) (negsuc j) word word' other other' = absurd (other' word')
  texts_rank most (negsuc i) b word word' other other' = absurd (other word)

  -- the words of any column, where those of texts stand for the texts that ascend
  pub Ranks-ascending : (kind : ColumnType) → Ranks (IsRankedWord known sorted) (known ++ sorted) kind
  Ranks-ascending Integer = Ranks-integer (IsRankedWord known sorted) (known ++ sorted) Integer refl
  Ranks-ascending (Varchar most) = λ a b low low' word word'. ranks_beside_null (known ++ sorted) (Varchar most) a b low low' (texts_rank most a b word word')

-- rows whose columns' words all compare as their values do
pub rows_rank : (P : ColumnType → ℤ → Type 0) (texts : List (List ℕ)) (kinds : List ColumnType) → All (Ranks P texts) kinds →
    (xs ys : WordRow) → AllZip P kinds xs → AllZip P kinds ys → AreNumbers xs → AreNumbers ys → row_cmp (values_of texts kinds xs) (values_of texts kinds ys) ≡ word_row_cmp xs ys
rows_rank P texts [] ranks [] [] words words' low low' = refl
rows_rank P texts [] ranks [] (y ∷ ys) words words' low low' = absurd words'
rows_rank P texts [] ranks (x ∷ xs) ys words words' low low' = absurd words
rows_rank P texts (kind ∷ kinds) ranks [] ys words words' low low' = absurd words
rows_rank P texts (kind ∷ kinds) ranks (x ∷ xs) [] words words' low low' = absurd words'
rows_rank P texts (kind ∷ kinds) ranks (x ∷ xs) (y ∷ ys) words words' low low' =
    let number = λ (word : ℤ). null_word ≤ℤ word in
    let first = All-head (Ranks P texts) kind kinds ranks x y (All-head number x xs low) (All-head number y ys low') words.0 words'.0 in
    let rest = rows_rank P texts kinds (All-tail (Ranks P texts) kind kinds ranks) xs ys words.1 words'.1 (All-tail number x xs low) (All-tail number y ys low') in
    λ i. ordering_then (first i) (rest i)
