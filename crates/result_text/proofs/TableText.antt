-- Rows sorted by their words are their values in order, where words compare as values do, or where those that tie in their
-- first columns, whose words do, are put in order too.
use Rattle.std.proofs.Common.{All, ◌≡◌, ℕ, zero, suc, ℤ, pos, negsuc, ◌<◌, ◌≤ℤ◌, Bool, if◌then◌else◌, slice_get, unwrap_or, List, [], ◌∷◌, ◌++◌, Result, Vec, Global, IfOk, length, get_or, map, flat_map, take, drop, sum_by, IsPermutation, IsSorted, false, refl, sym, ap, ◌∙◌, subst, arith, length-append}
use Rattle.std.proofs.Math.Seq.{take-append_seam, drop-append_seam}
use Rattle.std.proofs.lemmas.List.{get_or_default, get_or-map, length-map}
use Rattle.std.proofs.lemmas.List.Elements.{All-head, All-tail, All-take}
use Rattle.std.proofs.lemmas.List.Sums.{sum_by-cons}
use Rattle.std.proofs.lemmas.List.Sorted.{All-permutation, IsPermutation-map, sum_by-IsPermutation}
use Rattle.std.specs.Cmp.{IsTotalOrder, int_cmp_total, tied_itself}
use Rattle.std.specs.Cmp.Lexicographic.{slice_cmp, lists_total}
use Rattle.std.specs.FinMap.{IsAntisymmetric, int_cmp-IsAntisymmetric, slice_cmp-IsAntisymmetric}
use Rattle.std.specs.declared.alloc.AllocError.{AllocError}
use Rattle.std.specs.List.{AllZip}
use Rattle.std.specs.Ordering.{int_cmp, int_eq, is_gt, ordering_then}
use Rattle.std.specs.declared.cmp.Ordering.{Ordering}
use Rattle.std.specs.declared.cmp.Ordering.TheVariants.{Less, Equal, Greater}
use Rattle.csv.specs.Writing.{row_text, default_writer}
use Rattle.sql_values.specs.declared.column.ColumnType.{ColumnType}
use Rattle.sql_values.specs.declared.column.ColumnType.TheVariants.{Integer, Varchar}
use Rattle.sql_values.specs.Stored.{ValueRow}
use Rattle.sql_values.specs.declared.value.Value.TheVariants as value
use Rattle.sql_values.specs.Dictionary.{text_of}
use Rattle.sql_values.specs.Order.{value_cmp}
use Rattle.sql_values.specs.Words.{null_word, value_of, IsWord}
use Rattle.result_text.specs.Order.{row_cmp, word_row_cmp, in_order}
use Rattle.result_text.specs.Placing.{ArePlaced}
use Rattle.result_text.specs.Printed.{record_of, records_of, table_text}
use Rattle.result_text.specs.Ranks.{AreAscending, IsRankedWord}
use Rattle.result_text.specs.Rows.{WordRow, AreNumbers, words_of}
use Rattle.sql_values.specs.Stored.{values_of, AreWordsOf}
use Rattle.result_text.specs.Sorted.{AreSorted}
use Rattle.result_text.specs.Ties.{AreMarked, select, weave}
use Rattle.sql_values.proofs.Ascending.{IsUpto, Ascends, Ascends-from_sort, Ascends-map}
use Rattle.result_text.proofs.Ranks.{Ranks, Ranks-integer, Ranks-ascending, rows_rank}
use Rattle.result_text.proofs.RowsInOrder.{rows_total, rows_antisymmetric, in_order-from_ascends, in_order-permutation, sum_by-in_order, Ascends-in_order}
use Rattle.result_text.proofs.Weave.{All-weave, MarksTies, fronts_upto, woven, map-select, map-weave}
use Rattle.result_text.proofs.Zips.{AllZip-weaker}

flat_map-of_map : {A B C : Type 0} (f : B → List C) (g : A → B) (xs : List A) → flat_map f (map g xs) ≡ flat_map (λ x. f (g x)) xs
flat_map-of_map f g [] = refl
flat_map-of_map f g (x ∷ xs) = ap (λ l. f (g x) ++ l) (flat_map-of_map f g xs)

-- the text of rows whose values are those of others in order
pub text_of_rows : (texts : List (List ℕ)) (kinds : List ColumnType) (names : List (List ℕ)) (values : List ValueRow) (sorted printed : List WordRow) (text : Result (Vec ℕ Global) AllocError) →
    printed ≡ sorted → map (values_of texts kinds) sorted ≡ in_order values →
    IfOk text (λ bytes. bytes.items ≡ row_text default_writer names ++ records_of texts kinds printed) → IfOk text (λ bytes. bytes.items ≡ table_text names values)
text_of_rows texts kinds names values sorted printed text same order is =
    let rows : records_of texts kinds printed ≡ flat_map record_of (in_order values) =
    ap (records_of texts kinds) same ∙ sym (flat_map-of_map record_of (values_of texts kinds) sorted) ∙ ap (flat_map record_of) order in
    subst (λ (l : List ℕ). IfOk text (λ bytes. bytes.items ≡ row_text default_writer names ++ l)) rows is

-- the text doesn't depend on the order in which rows are given
pub table_text-permutation : (names : List (List ℕ)) (rows others : List ValueRow) → IsPermutation rows others → table_text names rows ≡ table_text names others
table_text-permutation names rows others moved =
    ap (λ (sorted : List ValueRow). row_text default_writer names ++ flat_map record_of sorted) (sym (in_order-permutation rows others moved))

words_total : IsTotalOrder word_row_cmp
words_total = lists_total int_cmp_total

words_antisymmetric : IsAntisymmetric word_row_cmp
words_antisymmetric = slice_cmp-IsAntisymmetric int_cmp-IsAntisymmetric

map-of_map : {A B C : Type 0} (f : B → C) (g : A → B) (xs : List A) → map f (map g xs) ≡ map (λ x. f (g x)) xs
map-of_map f g [] = refl
map-of_map f g (x ∷ xs) = ap (λ l. f (g x) ∷ l) (map-of_map f g xs)

-- rows sorted by words of which each compares as its value
module _ (P : ColumnType → ℤ → Type 0) (texts : List (List ℕ)) (kinds : List ColumnType) (ranks : All (Ranks P texts) kinds) where
  abbrev Row : WordRow → Type 0
  Row row = AllZip P kinds row × AreNumbers row

  pub in_order-by_words : (rows sorted : List WordRow) → IsPermutation rows sorted → IsSorted word_row_cmp sorted → All (AllZip P kinds) rows → All AreNumbers rows →
      map (values_of texts kinds) sorted ≡ in_order (map (values_of texts kinds) rows)
  in_order-by_words rows sorted moved up are low =
      let values = values_of texts kinds in
      let each : All Row sorted = λ k d inside. (All-permutation (AllZip P kinds) rows sorted moved are k d inside, All-permutation AreNumbers rows sorted moved low k d inside) in
      let upto = λ (x y : WordRow) (p : Row x) (q : Row y) (le : IsUpto word_row_cmp x y). subst (λ r. is_gt r ≡ false) (sym (rows_rank P texts kinds ranks x y p.0 q.0 p.1 q.1)) le in
      in_order-from_ascends (map values rows) (map values sorted)
      (Ascends-map word_row_cmp row_cmp values Row upto sorted (Ascends-from_sort word_row_cmp words_total sorted up) each)
      (λ f. sum_by-IsPermutation f (map values rows) (map values sorted) (IsPermutation-map values rows sorted moved))

-- lists whose first elements differ compare as these do
front_decides : {X : Type 0} (R : X → X → Ordering) (count : ℕ) (xs ys : List X) → slice_cmp R (take count xs) (take count ys) ≡ Less → slice_cmp R xs ys ≡ Less
front_decides R zero xs ys less = absurd (cc less)
front_decides R (suc count) [] [] less = less
front_decides R (suc count) [] (y ∷ ys) less = refl
front_decides R (suc count) (x ∷ xs) [] less = less
front_decides R (suc count) (x ∷ xs) (y ∷ ys) less =
    elim (R x y) as (λ r. ordering_then r (slice_cmp R (take count xs) (take count ys)) ≡ Less → ordering_then r (slice_cmp R xs ys) ≡ Less) [
      | Less ↦ λ e. refl
      | Equal ↦ λ e. front_decides R count xs ys e
      | Greater ↦ λ e. e
    ] less

values_of-take : (texts : List (List ℕ)) (kinds : List ColumnType) (count : ℕ) (row : WordRow) → take count (values_of texts kinds row) ≡ values_of texts (take count kinds) (take count row)
values_of-take texts kinds zero row = refl
values_of-take texts [] (suc count) row = refl
values_of-take texts (kind ∷ kinds) (suc count) [] = refl
values_of-take texts (kind ∷ kinds) (suc count) (word ∷ row) = ap (λ l. value_of texts kind word ∷ l) (values_of-take texts kinds count row)

AllZip-take : {A B : Type 0} (R : A → B → Type 0) (count : ℕ) (xs : List A) (ys : List B) → AllZip R xs ys → AllZip R (take count xs) (take count ys)
AllZip-take R zero xs ys all = tt
AllZip-take R (suc count) [] [] all = tt
AllZip-take R (suc count) [] (y ∷ ys) all = absurd all
AllZip-take R (suc count) (x ∷ xs) [] all = absurd all
AllZip-take R (suc count) (x ∷ xs) (y ∷ ys) all = (all.0, AllZip-take R count xs ys all.1)

head_same : (a b : WordRow) (xs ys : List ℕ) → length a ∷ xs ≡ length b ∷ ys → (length a ≡ length b) × (xs ≡ ys)
head_same a b xs ys same = (cc, cc)

-- rows as long as others, of the same words, are the same rows
pub same_rows : (xs ys : List WordRow) → map length xs ≡ map length ys → words_of xs ≡ words_of ys → xs ≡ ys
same_rows [] [] long same = refl
same_rows [] (y ∷ ys) long same = absurd (cc)
same_rows (x ∷ xs) [] long same = absurd (cc)
same_rows (x ∷ xs) (y ∷ ys) long same =
    let parts = head_same x y (map length xs) (map length ys) long in
    let front : x ≡ y = sym (take-append_seam x (words_of xs)) ∙ (λ i. take (parts.0 i) (same i)) ∙ take-append_seam y (words_of ys) in
    let back : words_of xs ≡ words_of ys = sym (drop-append_seam x (words_of xs)) ∙ (λ i. drop (parts.0 i) (same i)) ∙ drop-append_seam y (words_of ys) in
    λ i. front i ∷ same_rows xs ys parts.1 back i

-- so many words as rows have together
pub length-words_of : (rows like : List WordRow) → map length rows ≡ map length like → sum_by length like ≡ length (words_of rows)
length-words_of [] [] long = refl
length-words_of [] (y ∷ like) long = absurd (cc)
length-words_of (x ∷ rows) [] long = absurd (cc)
length-words_of (x ∷ rows) (y ∷ like) long =
    let parts = head_same x y (map length rows) (map length like) long in
    omega (arith, sum_by-cons length y like, length-append x (words_of rows), parts.0, length-words_of rows like parts.1)

-- a word of known texts means the same where more texts stand behind them
IsWord-known : (known sorted : List (List ℕ)) (kind : ColumnType) (word : ℤ) → IsWord known kind word →
    (value_of (known ++ sorted) kind word ≡ value_of known kind word) × IsWord (known ++ sorted) kind word
IsWord-known known sorted Integer word is = (refl, tt)
IsWord-known known sorted (Varchar most) (pos i) is =
    let same : text_of (known ++ sorted) (pos i) ≡ text_of known (pos i) = slice_get-more known i is in
    (ap (λ o. if int_eq (pos i) null_word then value.Null else value.Text (unwrap_or o [])) same, omega (arith, length-append known sorted, is))
  where
    slice_get-more : (known : List (List ℕ)) (i : ℕ) → i < length known → slice_get (known ++ sorted) i ≡ slice_get known i
    slice_get-more [] i inside = absurd (omega arith)
    slice_get-more (a ∷ known) zero inside = refl
    slice_get-more (a ∷ known) (suc i) inside = slice_get-more known i (omega arith)
IsWord-known known sorted (Varchar most) (negsuc n) is = (refl, is)

AreWordsOf-known : (known sorted : List (List ℕ)) (kinds : List ColumnType) (row : WordRow) → AreWordsOf known kinds row →
    (values_of (known ++ sorted) kinds row ≡ values_of known kinds row) × AreWordsOf (known ++ sorted) kinds row
AreWordsOf-known known sorted [] [] are = (refl, tt)
AreWordsOf-known known sorted [] (word ∷ row) are = absurd are
AreWordsOf-known known sorted (kind ∷ kinds) [] are = absurd are
AreWordsOf-known known sorted (kind ∷ kinds) (word ∷ row) are =
    let one = IsWord-known known sorted kind word are.0 in
    let rest = AreWordsOf-known known sorted kinds row are.1 in
    ((λ i. one.0 i ∷ rest.0 i), (one.1, rest.1))

rows_known : (known sorted : List (List ℕ)) (kinds : List ColumnType) (rows : List WordRow) → All (AreWordsOf known kinds) rows →
    map (values_of (known ++ sorted) kinds) rows ≡ map (values_of known kinds) rows
rows_known known sorted kinds [] are = refl
rows_known known sorted kinds (row ∷ rows) are =
    let one = AreWordsOf-known known sorted kinds row (All-head (AreWordsOf known kinds) row rows are) in
    λ i. one.0 i ∷ rows_known known sorted kinds rows (All-tail (AreWordsOf known kinds) row rows are) i

IsWord-ranked : (known sorted : List (List ℕ)) (kind : ColumnType) (word : ℤ) → IsRankedWord known sorted kind word → IsWord (known ++ sorted) kind word
IsWord-ranked known sorted Integer word is = tt
IsWord-ranked known sorted (Varchar most) (pos i) is = is.1
IsWord-ranked known sorted (Varchar most) (negsuc n) is = is

-- rows that have got places, sorted by their words
pub placed_in_order : (known sorted : List (List ℕ)) (kinds : List ColumnType) (rows ranked : List WordRow) (words : List ℤ) → AreAscending sorted →
    ((new : List WordRow) × (words ≡ words_of new) × ArePlaced known sorted kinds rows new) → AreSorted words rows ranked →
    (map (values_of (known ++ sorted) kinds) ranked ≡ in_order (map (values_of known kinds) rows)) × All (AreWordsOf (known ++ sorted) kinds) ranked
placed_in_order known sorted kinds rows ranked words up (new, same, placed) s =
    let each = AllZip (IsRankedWord known sorted) kinds in
    let one : s.rows ≡ new = same_rows s.rows new (s.long ∙ sym placed.long) (s.is ∙ same) in
    let are : All each s.rows = subst (All each) (sym one) placed.words in
    let are' = All-permutation each s.rows ranked s.moved are in (
      in_order-by_words (IsRankedWord known sorted) (known ++ sorted) kinds (λ k d inside. Ranks-ascending known sorted up _) s.rows ranked s.moved s.ordered are s.numbers
          ∙ ap (λ (l : List WordRow). in_order (map (values_of (known ++ sorted) kinds) l)) one
          ∙ ap in_order placed.values,
      λ k d inside. AllZip-weaker (IsRankedWord known sorted) (IsWord (known ++ sorted)) (IsWord-ranked known sorted) kinds _ (are' k d inside),
    )

-- the first columns are INTEGER
module _ (texts : List (List ℕ)) (kinds : List ColumnType) (count : ℕ) (integers : All (λ kind. kind ≡ Integer) (take count kinds)) where
  abbrev WordsRow : WordRow → Type 0
  WordsRow row = AreWordsOf texts kinds row × AreNumbers row

  abbrev front : WordRow → ValueRow
  front row = take count (values_of texts kinds row)

  fronts_rank : (x y : WordRow) → WordsRow x → WordsRow y → row_cmp (front x) (front y) ≡ word_row_cmp (take count x) (take count y)
  fronts_rank x y p q =
      (λ i. row_cmp (values_of-take texts kinds count x i) (values_of-take texts kinds count y i))
      ∙ rows_rank (IsWord texts) texts (take count kinds) (λ k d inside. Ranks-integer (IsWord texts) texts _ (integers k d inside)) (take count x) (take count y)
      (AllZip-take (IsWord texts) count kinds x p.0) (AllZip-take (IsWord texts) count kinds y q.0) (All-take (λ word. null_word ≤ℤ word) count x p.1) (All-take (λ word. null_word ≤ℤ word) count y q.1)

  fronts_ascend : (sorted : List WordRow) → IsSorted word_row_cmp sorted → All WordsRow sorted → Ascends row_cmp (map (take count) (map (values_of texts kinds) sorted))
  fronts_ascend sorted up each =
      let upto = λ (x y : WordRow) (p : WordsRow x) (q : WordsRow y) (le : IsUpto word_row_cmp x y).
      ap is_gt (fronts_rank x y p q) ∙ fronts_upto word_row_cmp words_total words_antisymmetric (take count) (front_decides int_cmp count) x y le in
      subst (Ascends row_cmp) (sym (map-of_map (take count) (values_of texts kinds) sorted))
      (Ascends-map word_row_cmp row_cmp front WordsRow upto sorted (Ascends-from_sort word_row_cmp words_total sorted up) each)

  ties_marked : (rows : List WordRow) (marks : List Bool) → All WordsRow rows → AreMarked count rows marks → MarksTies row_cmp rows_total rows_antisymmetric (take count) (front_decides value_cmp count) (map (values_of texts kinds) rows) marks
  ties_marked rows marks each marked k d e inside tie =
      let values = values_of texts kinds in
      let within : suc k < length rows = omega (arith, length-map rows values) in
      let x = get_or rows k [] in
      let y = get_or rows (suc k) [] in
      let same : front x ≡ front y = ap (take count) (sym (get_or-map values rows k [] d (omega arith))) ∙ tie ∙ ap (take count) (get_or-map values rows (suc k) [] d within) in
      let equal : word_row_cmp (take count x) (take count y) ≡ Equal =
      sym (fronts_rank x y (each k [] (omega arith)) (each (suc k) [] within)) ∙ ap (λ r. row_cmp r (front y)) same ∙ tied_itself rows_total (front y) in
      let words : take count x ≡ take count y = words_antisymmetric (take count x) (take count y) equal in
      marked k e (record {
        inside = within;
        same = λ z. ap (take count) (get_or_default rows k z [] (omega arith)) ∙ words ∙ ap (take count) (sym (get_or_default rows (suc k) z [] within));
      })

  -- those that tie, in order and put back, leave the rows in order
  pub woven_in_order : (sorted : List (List ℕ)) (rows turn tied ranked : List WordRow) (marks : List Bool) (words : List ℤ) →
      IsPermutation rows turn → IsSorted word_row_cmp turn → All (AreWordsOf texts kinds) rows → All AreNumbers rows → length marks ≡ length turn → AreMarked count turn marks →
      tied ≡ select marks turn → AreAscending sorted → ((new : List WordRow) × (words ≡ words_of new) × ArePlaced texts sorted kinds tied new) → AreSorted words tied ranked →
      (map (values_of (texts ++ sorted) kinds) (weave marks turn ranked) ≡ in_order (map (values_of texts kinds) rows)) × All (AreWordsOf (texts ++ sorted) kinds) (weave marks turn ranked)
  woven_in_order sorted rows turn tied ranked marks words moved up are low long marked those ascending told placed =
      let values = values_of texts kinds in
      let here : All (AreWordsOf texts kinds) turn = All-permutation (AreWordsOf texts kinds) rows turn moved are in
      let each : All WordsRow turn = λ k d inside. (here k d inside, All-permutation AreNumbers rows turn moved low k d inside) in
      let order = placed_in_order texts sorted kinds tied ranked words ascending told placed in
      let others = in_order (select marks (map values turn)) in
      let same : map (values_of (texts ++ sorted) kinds) ranked ≡ others = order.0 ∙ ap (λ l. in_order (map values l)) those ∙ ap in_order (map-select values marks turn) in
      let done = woven row_cmp rows_total rows_antisymmetric (take count) (front_decides value_cmp count) marks (map values turn) others
      (long ∙ sym (length-map turn values)) (ties_marked turn marks each marked) (fronts_ascend turn up each)
      (Ascends-in_order (select marks (map values turn))) (λ f. sum_by-in_order f (select marks (map values turn))) in
      let known : All (AreWordsOf (texts ++ sorted) kinds) turn = λ k d inside. (AreWordsOf-known texts sorted kinds _ (here k d inside)).1 in (
        map-weave (values_of (texts ++ sorted) kinds) marks turn ranked
            ∙ (λ i. weave marks (rows_known texts sorted kinds turn here i) (same i))
            ∙ in_order-from_ascends (map values turn) (weave marks (map values turn) others) done.0 done.1
            ∙ in_order-permutation (map values rows) (map values turn) (IsPermutation-map values rows turn moved),
        All-weave (AreWordsOf (texts ++ sorted) kinds) marks turn ranked known order.1,
      )
