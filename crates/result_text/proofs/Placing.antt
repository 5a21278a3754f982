-- The codes of rows' texts, and the words that stand for the same values over sorted texts.
use Rattle.std.proofs.Common.{All, Contains, ◌≡◌, ◌≢◌, ℕ, zero, suc, ℤ, pos, negsuc, ◌+◌, ◌+ℤ◌, ◌≤ℤ◌, ◌<◌, true, false, true≢false, cond, List, [], ◌∷◌, ◌++◌, length, get_or, map, flat_map, take, slice_get, option_map, unwrap_or, Some, None, Ok, Err, Result, IsSome, IfSome, Option, IsSorted, MatchResult, inl, inr, refl, sym, ap, ◌∙◌, subst, arith, append_assoc, append-nil, add-one}
use Rattle.std.proofs.lemmas.Bool.{cases_lt}
use Rattle.std.proofs.lemmas.Bool.Decides.{Decides-int_eq}
use Rattle.std.proofs.lemmas.Int.{ints}
use Rattle.std.proofs.lemmas.List.{get_or_default, get_or-map, length-map}
use Rattle.std.proofs.lemmas.List.Elements.{All-nil, All-cons, All-head, All-tail, All-append, All-contains, Contains-append_left, Contains-append_right}
use Rattle.std.proofs.lemmas.List.Sorted.{searchable_from_sorted}
use Rattle.std.proofs.lemmas.Option.{slice_get_within, slice_get-get_or}
use Rattle.std.specs.List.{AllZip}
use Rattle.std.specs.List.Sorted.{IsBinarySearchResult}
use Rattle.std.specs.Cmp.{int_cmp_total, int_ranks, tied_itself}
use Rattle.std.specs.Cmp.Lexicographic.{slice_cmp}
use Rattle.std.proofs.lemmas.Cmp.{nat_list_cmp_total}
use Rattle.std.specs.Ordering.{int_cmp, int_eq, nat_cmp, is_gt, is_lt, ordering_then, ordering_reverse}
use Rattle.std.specs.declared.cmp.Ordering.{Ordering}
use Rattle.std.specs.declared.cmp.Ordering.TheVariants.{Less, Equal, Greater}
use Rattle.sql_values.specs.declared.value.Value.TheVariants as value
use Rattle.sql_values.specs.declared.column.ColumnType.{ColumnType}
use Rattle.sql_values.specs.declared.column.ColumnType.TheVariants.{Integer, Varchar}
use Rattle.sql_values.specs.Dictionary.{text_of}
use Rattle.sql_values.specs.Words.{null_word, value_of, word_meaning, IsTextWord, IsWord}
use Rattle.result_text.specs.declared.places.CodedText.{CodedText}
use Rattle.result_text.specs.declared.places.Placed.{Placed}
use Rattle.result_text.specs.Lists.{last_of}
use Rattle.result_text.specs.Placing.{text_code, text_codes, IsCodedText, HasPlace, IsPlaced, placed_cmp, codes_of, HavePlaces, IsPlacedWord, IsPlacedRow, ArePlaced}
use Rattle.result_text.specs.Ranks.{IsRankedWord}
use Rattle.result_text.specs.Rows.{WordRow}
use Rattle.sql_values.specs.Stored.{values_of, AreWordsOf}
use Rattle.result_text.proofs.Ascent.{last_of-take}
use Rattle.result_text.proofs.Ranks.{value_cases}
use Rattle.result_text.proofs.Zips.{length-AllZip}

-- the codes of one column more
pub text_codes-more : (kinds : List ColumnType) (row : WordRow) (i : ℕ) (kind : ColumnType) (word : ℤ) → i < length kinds → i < length row →
    text_codes (take (suc i) kinds) row ≡ text_codes (take i kinds) row ++ text_code (get_or kinds i kind) (get_or row i word)
text_codes-more [] row i kind word below inside = absurd (omega arith)
text_codes-more (k ∷ kinds) [] i kind word below inside = absurd (omega arith)
text_codes-more (k ∷ kinds) (w ∷ row) zero kind word below inside = append-nil (text_code k w)
text_codes-more (k ∷ kinds) (w ∷ row) (suc i) kind word below inside =
    ap (λ codes. text_code k w ++ codes) (text_codes-more kinds row i kind word (omega arith) (omega arith)) ∙ sym (append_assoc (text_code k w) (text_codes (take i kinds) row) _)

-- the code of a word is one of its row's
pub Contains-text_codes : (kinds : List ColumnType) (row : WordRow) (i : ℕ) (kind : ColumnType) (word code : ℤ) → i < length kinds → i < length row →
    Contains (text_code (get_or kinds i kind) (get_or row i word)) code → Contains (text_codes kinds row) code
Contains-text_codes [] row i kind word code below inside there = absurd (omega arith)
Contains-text_codes (k ∷ kinds) [] i kind word code below inside there = absurd (omega arith)
Contains-text_codes (k ∷ kinds) (w ∷ row) zero kind word code below inside there = Contains-append_left (text_code k w) (text_codes kinds row) code there
Contains-text_codes (k ∷ kinds) (w ∷ row) (suc i) kind word code below inside there =
    Contains-append_right (text_code k w) (text_codes kinds row) code (Contains-text_codes kinds row i kind word code (omega arith) (omega arith) there)

pub Contains-text_code : (most : ℕ) (word : ℤ) → word ≢ null_word → Contains (text_code (Varchar most) word) word
Contains-text_code most word other =
    elim (int_eq word null_word) as (λ b. int_eq word null_word ≡ b → Contains (cond b [] (word ∷ [])) word) [
      | true ↦ λ e. absurd (other ((Decides-int_eq word null_word).0 e))
      | false ↦ λ e. (0, omega arith, refl)
    ] refl

pub IsSome-text_of : (texts : List (List ℕ)) (word : ℤ) → IsTextWord texts word → word ≢ null_word → IsSome (text_of texts word)
IsSome-text_of texts (pos i) is other = subst IsSome (sym (slice_get-get_or texts i [] is)) refl
IsSome-text_of texts (negsuc n) is other = absurd (other is)

abbrev HasText : List (List ℕ) → ℤ → Type 0
HasText texts code = IsSome (text_of texts code)

HasText-code : (texts : List (List ℕ)) (kind : ColumnType) (word : ℤ) → IsWord texts kind word → All (HasText texts) (text_code kind word)
HasText-code texts Integer word is = All-nil (HasText texts)
HasText-code texts (Varchar most) word is =
    elim (int_eq word null_word) as (λ b. int_eq word null_word ≡ b → All (HasText texts) (cond b [] (word ∷ []))) [
      | true ↦ λ e. All-nil (HasText texts)
      | false ↦ λ e. All-cons (HasText texts) word [] (IsSome-text_of texts word is (λ same. true≢false (sym ((Decides-int_eq word null_word).1 same) ∙ e))) (All-nil (HasText texts))
    ] refl

HasText-codes : (texts : List (List ℕ)) (kinds : List ColumnType) (row : WordRow) → AreWordsOf texts kinds row → All (HasText texts) (text_codes kinds row)
HasText-codes texts [] row are = All-nil (HasText texts)
HasText-codes texts (kind ∷ kinds) [] are = All-nil (HasText texts)
HasText-codes texts (kind ∷ kinds) (word ∷ row) are =
    All-append (HasText texts) (text_code kind word) (text_codes kinds row) (HasText-code texts kind word are.0) (HasText-codes texts kinds row are.1)

-- each code in rows has a text
pub HasText-rows : (texts : List (List ℕ)) (kinds : List ColumnType) (rows : List WordRow) → All (AreWordsOf texts kinds) rows → All (λ code. IsSome (text_of texts code)) (flat_map (text_codes kinds) rows)
HasText-rows texts kinds [] are = All-nil (HasText texts)
HasText-rows texts kinds (row ∷ rows) are =
    All-append (HasText texts) (text_codes kinds row) (flat_map (text_codes kinds) rows)
    (HasText-codes texts kinds row (All-head (AreWordsOf texts kinds) row rows are))
    (HasText-rows texts kinds rows (All-tail (AreWordsOf texts kinds) row rows are))

-- a list that has each code of the rows has places for each row
pub HavePlaces-rows : (placed : List Placed) (kinds : List ColumnType) (rows : List WordRow) →
    ((code : ℤ) → Contains (flat_map (text_codes kinds) rows) code → Contains (codes_of placed) code) → All (HavePlaces placed kinds) rows
HavePlaces-rows placed kinds [] each = All-nil (HavePlaces placed kinds)
HavePlaces-rows placed kinds (row ∷ rows) each =
    All-cons (HavePlaces placed kinds) row rows
    (λ code there. each code (Contains-append_left (text_codes kinds row) (flat_map (text_codes kinds) rows) code there))
    (HavePlaces-rows placed kinds rows (λ code there. each code (Contains-append_right (text_codes kinds row) (flat_map (text_codes kinds) rows) code there)))

-- the codes that have places are those of the texts
pub codes_of-placed : (known sorted : List (List ℕ)) (coded : List CodedText) (placed : List Placed) → AllZip (HasPlace known sorted) coded placed → codes_of placed ≡ map (λ one. one.code) coded
codes_of-placed known sorted [] [] all = refl
codes_of-placed known sorted [] (q ∷ placed) all = absurd all
codes_of-placed known sorted (one ∷ coded) [] all = absurd all
codes_of-placed known sorted (one ∷ coded) (q ∷ placed) all = λ i. all.0.0 i ∷ codes_of-placed known sorted coded placed all.1 i

-- and in its place each has the text that it has in the dictionary
pub IsPlaced-placed : (known sorted : List (List ℕ)) (coded : List CodedText) (placed : List Placed) → All (IsCodedText known) coded → AllZip (HasPlace known sorted) coded placed → All (IsPlaced known sorted) placed
IsPlaced-placed known sorted [] [] each all = All-nil (IsPlaced known sorted)
IsPlaced-placed known sorted [] (q ∷ placed) each all = absurd all
IsPlaced-placed known sorted (one ∷ coded) [] each all = absurd all
IsPlaced-placed known sorted (one ∷ coded) (q ∷ placed) each all =
    All-cons (IsPlaced known sorted) q placed
    (all.0.1 ∙ sym (All-head (IsCodedText known) one coded each) ∙ ap (text_of known) (sym all.0.0), all.0.2)
    (IsPlaced-placed known sorted coded placed (All-tail (IsCodedText known) one coded each) all.1)

-- a place among some texts, counted behind others
pub text_of-behind : (known sorted : List (List ℕ)) (place : ℤ) (text : List ℕ) → text_of sorted place ≡ Some text →
    (text_of (known ++ sorted) (pos (length known) +ℤ place) ≡ Some text) × (pos (length known) ≤ℤ (pos (length known) +ℤ place))
text_of-behind known sorted (pos n) text is = (behind known (length known + n) refl, omega (arith, ints))
  where
    behind : (known : List (List ℕ)) (place : ℕ) → place ≡ length known + n → slice_get (known ++ sorted) place ≡ Some text
    behind [] place same = let one : n ≡ place = omega arith in subst (λ k. slice_get sorted k ≡ Some text) one is
    behind (a ∷ known) zero same = absurd (omega arith)
    behind (a ∷ known) (suc place) same = behind known place (omega arith)
text_of-behind known sorted (negsuc n) text is = absurd (cc is)

turned : (r : Ordering) → is_gt r ≡ is_lt (ordering_reverse r)
turned Less = refl
turned Equal = refl
turned Greater = refl

-- among texts that are sorted none is less than the one before it
pub not_less_than_last : (coded : List CodedText) (i : ℕ) (d : CodedText) → IsSorted (λ a b. slice_cmp nat_cmp a.text b.text) coded → i < length coded →
    IfSome (option_map (λ one. one.text) (last_of (take i coded))) (λ last. is_gt (slice_cmp nat_cmp last (get_or coded i d).text) ≡ false)
not_less_than_last coded zero d up below = tt
not_less_than_last coded (suc i) d up below =
    let one : i + 1 ≡ suc i = add-one i in
    let first : i < length coded = omega arith in
    let last : last_of (take (suc i) coded) ≡ Some (get_or coded i d) = subst (λ n. last_of (take n coded) ≡ Some (get_or coded i d)) one (last_of-take coded i d first) in
    let here : is_lt (slice_cmp nat_cmp (get_or coded (suc i) d).text (get_or coded i d).text) ≡ false = subst (λ n. is_lt (slice_cmp nat_cmp (get_or coded n d).text (get_or coded i d).text) ≡ false) one (up i d (omega arith) (omega arith)) in
    let texts = λ (a b : CodedText). slice_cmp nat_cmp a.text b.text in
    subst (λ o. IfSome (option_map (λ one. one.text) o) (λ last. is_gt (slice_cmp nat_cmp last (get_or coded (suc i) d).text) ≡ false)) (sym last)
    (turned (texts (get_or coded i d) (get_or coded (suc i) d)) ∙ sym (ap is_lt (nat_list_cmp_total.antisymm (get_or coded (suc i) d).text (get_or coded i d).text)) ∙ here)

first_not_less : (a b : Ordering) → is_lt (ordering_then a b) ≡ false → is_lt a ≡ false
first_not_less Less b h = h
first_not_less Equal b h = refl
first_not_less Greater b h = refl

-- a code that has a place is found
module _ (placed : List Placed) (code : ℤ) (up : IsSorted placed_cmp placed) (there : Contains (codes_of placed) code) where
  pub found : (r : Result ℕ ℕ) → IsBinarySearchResult (λ one. int_cmp one.code code) placed r → MatchResult r (λ at. (d : Placed) → (get_or placed at d).code ≡ code) (λ at. ⊥)
  found (Ok at) is = λ d. sameness (get_or placed at d).code (is d)
    where
      sameness : (a : ℤ) → int_cmp a code ≡ Equal → a ≡ code
      sameness a e = rw e at (int_ranks a code)
  found (Err at) is =
      let key = λ (one : Placed). one.code in
      let some : Placed = record { code = code; place = code } in
      let parted = is (searchable_from_sorted int_cmp_total key placed code (λ k d low below. first_not_less _ _ (up k d low below))) in
      let inside : there.0 < length placed = omega (arith, there.1, length-map placed key) in
      let same : (get_or placed there.0 some).code ≡ code = sym (get_or-map key placed there.0 some code inside) ∙ there.2 in
      let ties : int_cmp (get_or placed there.0 some).code code ≡ Equal = subst (λ c. int_cmp c code ≡ Equal) (sym same) (tied_itself int_cmp_total code) in
      elim (cases_lt there.0 at) [
        | inl before ↦ let never : Equal ≡ Less = sym ties ∙ parted.0 there.0 some (omega arith) before in absurd (cc)
        | inr past ↦ let never : Equal ≡ Greater = sym ties ∙ parted.1 there.0 some past inside in absurd (cc)
      ]

-- the one that is found is one of them
pub Contains-found : (placed : List Placed) (code : ℤ) (at : ℕ) (d : Placed) → at < length placed → ((d : Placed) → (get_or placed at d).code ≡ code) →
    Contains placed (record { code = code; place = (get_or placed at d).place })
Contains-found placed code at d below is =
    (at, below, get_or_default placed at (record { code = code; place = (get_or placed at d).place }) d below ∙ (λ i. record { code = is d i; place = (get_or placed at d).place }))

-- one column more
pub IsPlacedRow-more : (placed : List Placed) (kinds : List ColumnType) (row new : WordRow) (i : ℕ) (kind : ColumnType) (word last : ℤ) → i < length kinds → i < length row →
    IsPlacedRow placed (take i kinds) row new → IsPlacedWord placed (get_or kinds i kind) (get_or row i word) last → IsPlacedRow placed (take (suc i) kinds) row (new ++ last ∷ [])
IsPlacedRow-more placed [] row new i kind word last below inside is one = absurd (omega arith)
IsPlacedRow-more placed (k ∷ kinds) [] new i kind word last below inside is one = absurd (omega arith)
IsPlacedRow-more placed (k ∷ kinds) (w ∷ row) new zero kind word last below inside is one =
    subst (λ new. IsPlacedRow placed (k ∷ []) (w ∷ row) (new ++ last ∷ [])) (sym is) (one, refl)
IsPlacedRow-more placed (k ∷ kinds) (w ∷ row) [] (suc i) kind word last below inside is one = absurd is
IsPlacedRow-more placed (k ∷ kinds) (w ∷ row) (first ∷ new) (suc i) kind word last below inside is one =
    (is.0, IsPlacedRow-more placed kinds row new i kind word last (omega arith) (omega arith) is.1 one)

-- the values of a word, and of the word that it becomes
module _ (known sorted : List (List ℕ)) (placed : List Placed) (each : All (IsPlaced known sorted) placed) where
  text_placed : (most : ℕ) (word new : ℤ) → IsTextWord known word → word ≢ null_word → Contains placed (record { code = word; place = new }) →
      (value_of (known ++ sorted) (Varchar most) new ≡ word_meaning known (Varchar most) word) × IsRankedWord known sorted (Varchar most) new
  text_placed most word new is other there =
      let told = All-contains (IsPlaced known sorted) placed (record { code = word; place = new }) each there in
      by new told.0 told.1
    where
      by : (new : ℤ) → text_of (known ++ sorted) new ≡ text_of known word → pos (length known) ≤ℤ new →
          (value_of (known ++ sorted) (Varchar most) new ≡ word_meaning known (Varchar most) word) × IsRankedWord known sorted (Varchar most) new
      by (pos i) same low = (ap (λ o. value.Text (unwrap_or o [])) same, (omega (arith, ints), inside (text_of (known ++ sorted) (pos i)) refl))
        where
          inside : (o : Option (List ℕ)) → slice_get (known ++ sorted) i ≡ o → i < length (known ++ sorted)
          inside None none = absurd (true≢false (sym (subst IsSome (sym same ∙ none) (IsSome-text_of known word is other))))
          inside (Some text) is' = slice_get_within (known ++ sorted) i text is'
      by (negsuc n) same low = absurd (omega (arith, ints))

  word_placed : (kind : ColumnType) (word new : ℤ) → IsWord known kind word → IsPlacedWord placed kind word new →
      (value_of (known ++ sorted) kind new ≡ value_of known kind word) × IsRankedWord known sorted kind new
  word_placed Integer word new is becomes = (ap (value_of (known ++ sorted) Integer) becomes, tt)
  word_placed (Varchar most) word new is becomes =
      value_cases (λ v. (value_of (known ++ sorted) (Varchar most) new ≡ v) × IsRankedWord known sorted (Varchar most) new) known (Varchar most) word
      (λ null. subst (λ w. (value_of (known ++ sorted) (Varchar most) w ≡ value.Null) × IsRankedWord known sorted (Varchar most) w) (sym (becomes.0 null)) (refl, refl))
      (λ other. text_placed most word new is other (becomes.1 other))

  row_placed : (kinds : List ColumnType) (row new : WordRow) → AreWordsOf known kinds row → IsPlacedRow placed kinds row new →
      (values_of (known ++ sorted) kinds new ≡ values_of known kinds row) × AllZip (IsRankedWord known sorted) kinds new
  row_placed [] [] new are becomes = (refl, subst (AllZip (IsRankedWord known sorted) []) (sym becomes) tt)
  row_placed [] (word ∷ row) new are becomes = absurd are
  row_placed (kind ∷ kinds) [] new are becomes = absurd are
  row_placed (kind ∷ kinds) (word ∷ row) [] are becomes = absurd becomes
  row_placed (kind ∷ kinds) (word ∷ row) (first ∷ new) are becomes =
      let one = word_placed kind word first are.0 becomes.0 in
      let rest = row_placed kinds row new are.1 becomes.1 in
      ((λ i. one.0 i ∷ rest.0 i), (one.1, rest.1))

  -- rows become others that stand for the same values
  pub rows_placed : (kinds : List ColumnType) (rows new : List WordRow) → All (AreWordsOf known kinds) rows → AllZip (IsPlacedRow placed kinds) rows new → ArePlaced known sorted kinds rows new
  rows_placed kinds [] [] are become = record { long = refl; values = refl; words = All-nil (λ row. AllZip (IsRankedWord known sorted) kinds row) }
  rows_placed kinds [] (first ∷ new) are become = absurd become
  rows_placed kinds (row ∷ rows) [] are become = absurd become
  rows_placed kinds (row ∷ rows) (first ∷ new) are become =
      let here = All-head (AreWordsOf known kinds) row rows are in
      let one = row_placed kinds row first here become.0 in
      let rest = rows_placed kinds rows new (All-tail (AreWordsOf known kinds) row rows are) become.1 in
      let long : length first ≡ length row = sym (length-AllZip (IsRankedWord known sorted) kinds first one.1) ∙ length-AllZip (IsWord known) kinds row here in
      record {
        long = λ i. long i ∷ rest.long i;
        values = λ i. one.0 i ∷ rest.values i;
        words = All-cons (λ row. AllZip (IsRankedWord known sorted) kinds row) first new one.1 rest.words;
      }
