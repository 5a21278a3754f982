-- Words and values: a word means the same where more texts come, and each of the two gives the other back.
use Rattle.std.proofs.Common.{◌≡◌, ◌≢◌, ℕ, zero, suc, ◌+◌, ◌<◌, ◌≤◌, Bool, true, false, not, cond, ◌||◌, List, [], ◌∷◌, ◌++◌, length, map, take, Some, None, option_map, ℤ, pos, negsuc, refl, sym, ap, subst, ◌∙◌, true≢false, arith, length-append, unwrap_or, slice_get, if◌then◌else◌}
use Rattle.std.specs.List.{position_or_len, AllByRecursion, IsDistinct}
use Rattle.std.specs.Ordering.{int_eq}
use Rattle.std.specs.Str.{bytes_eq}
use Rattle.std.proofs.lemmas.Bool.Decides.{Decides-int_eq}
use Rattle.std.proofs.lemmas.Slice.Eq.{bytes_eq-Decides}
use Rattle.std.proofs.lemmas.Option.{slice_get_within}
use Rattle.std.proofs.lemmas.Map.Keys.{IsDistinct-head, IsDistinct-tail}
use Rattle.sql_values.specs.declared.value.Value.{Value}
use Rattle.sql_values.specs.declared.value.Value.TheVariants as value
use Rattle.sql_values.specs.declared.column.ColumnType.{ColumnType}
use Rattle.sql_values.specs.declared.column.ColumnType.TheVariants.{Integer, Varchar}
use Rattle.sql_values.specs.declared.column.ColumnDef.{ColumnDef}
use Rattle.sql_values.specs.Dictionary.{has_text, code_of, text_of, Begins}
use Rattle.sql_values.specs.Words.{null_word, word_of, word_meaning, value_of, IsTextWord, IsWord}
use Rattle.sql_values.specs.Stored.{ValueRow, IsTextOf, IsValueOf, IsRowOf, AreWords, row_of, StandsFor}
use Rattle.sql_values.proofs.Dictionary.{position-below, position_none}

-- a text stands at its place
text_at_place : (t : List ℕ) (texts : List (List ℕ)) → has_text texts t ≡ true → slice_get texts (position_or_len (bytes_eq t) texts) ≡ Some t
text_at_place t [] h = absurd (true≢false (sym h))
text_at_place t (x ∷ xs) h = by (bytes_eq t x) refl (λ e. text_at_place t xs (sym (ap (λ b. b || has_text xs t) e) ∙ h))
  where
    by : (b : Bool) → bytes_eq t x ≡ b → (bytes_eq t x ≡ false → slice_get xs (position_or_len (bytes_eq t) xs) ≡ Some t) →
        slice_get (x ∷ xs) (cond (not (bytes_eq t x)) (1 + position_or_len (bytes_eq t) xs) 0) ≡ Some t
    by true e rest = rw e (ap Some (sym ((bytes_eq-Decides t x).0 e)))
    by false e rest =
        let next : 1 + position_or_len (bytes_eq t) xs ≡ suc (position_or_len (bytes_eq t) xs) = omega arith in
        rw e (ap (slice_get (x ∷ xs)) next ∙ rest e)

-- the code of a text leads to it
pub text_of-code_of : (texts : List (List ℕ)) (t : List ℕ) (code : ℤ) → code_of texts t ≡ Some code → text_of texts code ≡ Some t
text_of-code_of texts t code h = by (has_text texts t) refl
  where
    by : (b : Bool) → has_text texts t ≡ b → text_of texts code ≡ Some t
    by true e =
        let is : Some (pos (position_or_len (bytes_eq t) texts)) ≡ Some code = sym (ap (option_map pos) (position-below (bytes_eq t) texts e)) ∙ h in
        let code_is : pos (position_or_len (bytes_eq t) texts) ≡ code = cc in
        ap (text_of texts) (sym code_is) ∙ text_at_place t texts e
    by false e = let gone : None ≡ Some code = sym (ap (option_map pos) (position_none (bytes_eq t) texts e)) ∙ h in cc

-- and is a word of a text
pub IsTextWord-text_of : (texts : List (List ℕ)) (t : List ℕ) (code : ℤ) → text_of texts code ≡ Some t → IsTextWord texts code
IsTextWord-text_of texts t (pos place) h = slice_get_within texts place t h
IsTextWord-text_of texts t (negsuc n) h = cc

slice_get-append_left : {X : Type 0} (xs ys : List X) (i : ℕ) → i < length xs → slice_get (xs ++ ys) i ≡ slice_get xs i
slice_get-append_left [] ys i h = absurd (omega (arith, h))
slice_get-append_left (x ∷ xs) ys zero h = refl
slice_get-append_left (x ∷ xs) ys (suc i) h = slice_get-append_left xs ys i (omega (arith, h))

module _ (texts new : List (List ℕ)) (begins : Begins texts new) where
  text_kept : (place : ℕ) → place < length texts → slice_get new place ≡ slice_get texts place
  text_kept place there = ap (λ l. slice_get l place) begins.1 ∙ slice_get-append_left texts begins.0 place there

  -- a word is allowed still
  pub IsWord-Begins : (kind : ColumnType) (word : ℤ) → IsWord texts kind word → IsWord new kind word
  IsWord-Begins Integer word h = h
  IsWord-Begins (Varchar n) (pos place) h = omega (arith, h, ap length begins.1, length-append texts begins.0)
  IsWord-Begins (Varchar n) (negsuc k) h = h

  -- and means the same
  pub value_of-Begins : (kind : ColumnType) (word : ℤ) → IsWord texts kind word → value_of new kind word ≡ value_of texts kind word
  value_of-Begins Integer word h = refl
  value_of-Begins (Varchar n) (pos place) h = ap (λ o. if int_eq (pos place) null_word then value.Null else value.Text (unwrap_or o [])) (text_kept place h)
  value_of-Begins (Varchar n) (negsuc k) h = refl

  pub AreWords-Begins : (columns : List ColumnDef) (words : List ℤ) → AreWords texts columns words → AreWords new columns words
  AreWords-Begins [] [] h = h
  AreWords-Begins [] (w ∷ ws) h = h
  AreWords-Begins (c ∷ cs) [] h = h
  AreWords-Begins (c ∷ cs) (w ∷ ws) h = (IsWord-Begins c.kind w h.0, AreWords-Begins cs ws h.1)

  pub row_of-Begins : (columns : List ColumnDef) (words : List ℤ) → AreWords texts columns words → row_of new columns words ≡ row_of texts columns words
  row_of-Begins [] words h = refl
  row_of-Begins (c ∷ cs) [] h = refl
  row_of-Begins (c ∷ cs) (w ∷ ws) h = (λ i. value_of-Begins c.kind w h.0 i ∷ row_of-Begins cs ws h.1 i)

at_place : (P : List ℕ → Type 0) (texts : List (List ℕ)) (place : ℕ) → AllByRecursion P texts → place < length texts → P (unwrap_or (slice_get texts place) [])
at_place P [] place h there = absurd (omega (arith, there))
at_place P (x ∷ xs) zero h there = h.0
at_place P (x ∷ xs) (suc place) h there = at_place P xs place h.1 (omega (arith, there))

-- of different texts the one at a place has that place
own_place : (texts : List (List ℕ)) (place : ℕ) → IsDistinct bytes_eq texts → place < length texts →
    position_or_len (bytes_eq (unwrap_or (slice_get texts place) [])) texts ≡ place
own_place [] place distinct there = absurd (omega (arith, there))
own_place (x ∷ xs) zero distinct there = rw (bytes_eq-Decides x x).1 refl
own_place (x ∷ xs) (suc place) distinct there =
    by (unwrap_or (slice_get xs place) [])
    (at_place (λ y. bytes_eq x y ≡ false) xs place (IsDistinct-head bytes_eq x xs distinct) (omega (arith, there)))
    (own_place xs place (IsDistinct-tail bytes_eq x xs distinct) (omega (arith, there)))
  where
    by : (t : List ℕ) → bytes_eq x t ≡ false → position_or_len (bytes_eq t) xs ≡ place → cond (not (bytes_eq t x)) (1 + position_or_len (bytes_eq t) xs) 0 ≡ suc place
    by t other rest = case (bytes_eq t x) refl
      where
        case : (b : Bool) → bytes_eq t x ≡ b → cond (not b) (1 + position_or_len (bytes_eq t) xs) 0 ≡ suc place
        case true e = let same : t ≡ x = (bytes_eq-Decides t x).0 e in absurd (true≢false (sym ((bytes_eq-Decides x t).1 (sym same)) ∙ other))
        case false e = omega (arith, rest)

-- NULL's word is NULL in every column
pub NULL_is_null : (texts : List (List ℕ)) (kind : ColumnType) → value_of texts kind null_word ≡ value.Null
NULL_is_null texts kind = ap (λ b. if b then value.Null else word_meaning texts kind null_word) ((Decides-int_eq null_word null_word).1 refl)

-- a word gives its value's word again
word_of-value_of : (texts : List (List ℕ)) (kind : ColumnType) (word : ℤ) → IsDistinct bytes_eq texts → IsWord texts kind word → word_of texts (value_of texts kind word) ≡ word
word_of-value_of texts Integer word distinct h = by (int_eq word null_word) refl
  where
    by : (b : Bool) → int_eq word null_word ≡ b → word_of texts (if b then value.Null else value.Int word) ≡ word
    by true e = sym ((Decides-int_eq word null_word).0 e)
    by false e = refl
word_of-value_of texts (Varchar n) (pos place) distinct h = ap pos (own_place texts place distinct h)
word_of-value_of texts (Varchar n) (negsuc k) distinct h = subst (λ w. word_of texts (value_of texts (Varchar n) w) ≡ w) (sym h) (ap (word_of texts) (NULL_is_null texts (Varchar n)))

words_again : (texts : List (List ℕ)) (columns : List ColumnDef) (words : List ℤ) → IsDistinct bytes_eq texts → AreWords texts columns words → words ≡ map (word_of texts) (row_of texts columns words)
words_again texts [] [] distinct h = refl
words_again texts [] (w ∷ ws) distinct h = absurd h
words_again texts (c ∷ cs) [] distinct h = absurd h
words_again texts (c ∷ cs) (w ∷ ws) distinct h = (λ i. sym (word_of-value_of texts c.kind w distinct h.0) i ∷ words_again texts cs ws distinct h.1 i)

-- words that are allowed stand for the row that they mean
pub StandsFor-row_of : (texts : List (List ℕ)) (columns : List ColumnDef) (words : List ℤ) → IsDistinct bytes_eq texts → AreWords texts columns words → IsRowOf columns (row_of texts columns words) →
    StandsFor texts columns words (row_of texts columns words)
StandsFor-row_of texts columns words distinct allowed fit = record { values = refl; by_value = words_again texts columns words distinct allowed; allowed = allowed; fit = fit }

-- the word that stands for a value in a column that the value fits
pub IsWord-null : (texts : List (List ℕ)) (kind : ColumnType) → IsWord texts kind null_word
IsWord-null texts Integer = tt
IsWord-null texts (Varchar n) = refl

pub number_is_int : (texts : List (List ℕ)) (kind : ColumnType) (number : ℤ) → kind ≡ Integer → number ≢ null_word → value_of texts kind number ≡ value.Int number
number_is_int texts kind number is_integer other = ap (λ k. value_of texts k number) is_integer ∙ by (int_eq number null_word) refl
  where
    by : (b : Bool) → int_eq number null_word ≡ b → (if b then value.Null else value.Int number) ≡ value.Int number
    by true e = absurd (other ((Decides-int_eq number null_word).0 e))
    by false e = refl

pub IsWord-int : (texts : List (List ℕ)) (kind : ColumnType) (number : ℤ) → kind ≡ Integer → IsWord texts kind number
IsWord-int texts kind number is_integer = subst (λ k. IsWord texts k number) (sym is_integer) tt

-- a code means its text
pub text_code_means : (texts : List (List ℕ)) (n : ℕ) (t : List ℕ) (code : ℤ) → text_of texts code ≡ Some t → value_of texts (Varchar n) code ≡ value.Text t
text_code_means texts n t (pos place) e = ap (λ o. value.Text (unwrap_or o [])) e
text_code_means texts n t (negsuc k) e = cc

pub code_is_text : (texts : List (List ℕ)) (kind : ColumnType) (t : List ℕ) (code : ℤ) → IsTextOf kind t → code_of texts t ≡ Some code → value_of texts kind code ≡ value.Text t
code_is_text texts Integer t code fits h = absurd fits
code_is_text texts (Varchar n) t code fits h = text_code_means texts n t code (text_of-code_of texts t code h)

pub IsWord-code : (texts : List (List ℕ)) (kind : ColumnType) (t : List ℕ) (code : ℤ) → IsTextOf kind t → code_of texts t ≡ Some code → IsWord texts kind code
IsWord-code texts Integer t code fits h = absurd fits
IsWord-code texts (Varchar n) t code fits h = IsTextWord-text_of texts t code (text_of-code_of texts t code h)

-- one more word in a row
pub length-row_of : (texts : List (List ℕ)) (columns : List ColumnDef) (words : List ℤ) → length words ≤ length columns → length (row_of texts columns words) ≡ length words
length-row_of texts [] [] h = refl
length-row_of texts [] (w ∷ ws) h = absurd (omega (arith, h))
length-row_of texts (c ∷ cs) [] h = refl
length-row_of texts (c ∷ cs) (w ∷ ws) h = ap suc (length-row_of texts cs ws (omega (arith, h)))

pub row_of-nil : (texts : List (List ℕ)) (columns : List ColumnDef) → row_of texts columns [] ≡ []
row_of-nil texts [] = refl
row_of-nil texts (c ∷ cs) = refl

-- only as many columns count as there are words
pub row_of-take : (texts : List (List ℕ)) (columns : List ColumnDef) (words : List ℤ) → row_of texts (take (length words) columns) words ≡ row_of texts columns words
row_of-take texts [] [] = refl
row_of-take texts [] (w ∷ ws) = refl
row_of-take texts (c ∷ cs) [] = refl
row_of-take texts (c ∷ cs) (w ∷ ws) = ap (λ l. value_of texts c.kind w ∷ l) (row_of-take texts cs ws)

module _ (texts : List (List ℕ)) (column : ColumnDef) (word : ℤ) where
  pub row_of-append : (columns : List ColumnDef) (words : List ℤ) → slice_get columns (length words) ≡ Some column →
      row_of texts columns (words ++ word ∷ []) ≡ row_of texts columns words ++ value_of texts column.kind word ∷ []
  row_of-append [] words h = cc
  row_of-append (c ∷ cs) [] h =
      let one : c ≡ column = cc in
      ap (λ l. value_of texts c.kind word ∷ l) (row_of-nil texts cs) ∙ ap (λ c. value_of texts c.kind word ∷ []) one
  row_of-append (c ∷ cs) (w ∷ ws) h = ap (λ l. value_of texts c.kind w ∷ l) (row_of-append cs ws h)

  pub AreWords-append : (columns : List ColumnDef) (words : List ℤ) → slice_get columns (length words) ≡ Some column →
      AreWords texts (take (length words) columns) words → IsWord texts column.kind word →
      AreWords texts (take (length (words ++ word ∷ [])) columns) (words ++ word ∷ [])
  AreWords-append [] words h before now = cc
  AreWords-append (c ∷ cs) [] h before now = let one : c ≡ column = cc in (subst (λ c. IsWord texts c.kind word) (sym one) now, tt)
  AreWords-append (c ∷ cs) (w ∷ ws) h before now = (before.0, AreWords-append cs ws h before.1 now)

pub IsRowOf-append : (column : ColumnDef) (v : Value) (columns : List ColumnDef) (row : ValueRow) → slice_get columns (length row) ≡ Some column →
    IsRowOf (take (length row) columns) row → IsValueOf column v → IsRowOf (take (length (row ++ v ∷ [])) columns) (row ++ v ∷ [])
IsRowOf-append column v [] row h before now = cc
IsRowOf-append column v (c ∷ cs) [] h before now = let one : c ≡ column = cc in (subst (λ c. IsValueOf c v) (sym one) now, tt)
IsRowOf-append column v (c ∷ cs) (x ∷ xs) h before now = (before.0, IsRowOf-append column v cs xs h before.1 now)
