-- Words whose texts got new codes mean the same.
use Rattle.std.proofs.Common.{◌≡◌, ℕ, zero, suc, ◌+◌, ◌*◌, ◌<◌, ◌≤◌, List, [], ◌∷◌, ◌++◌, length, map, take, drop, get_or, set, Some, ℤ, pos, negsuc, refl, sym, ap, subst, ◌∙◌, arith, add-one, slice_get, unwrap_or, append-nil}
use Rattle.std.proofs.lemmas.List.{drop-drop, map-append, take-append-drop, length-take-le, take_at, drop_at}
use Rattle.std.proofs.lemmas.List.Elements.{All-nil, All-cons, All-head, All-tail}
use Rattle.std.proofs.lemmas.Slice.{drop-put_mid}
use borrow.Rule.Slice.PartMut.{put_mid}
use Rattle.sql_values.specs.declared.column.ColumnType.{ColumnType}
use Rattle.sql_values.specs.declared.column.ColumnType.TheVariants.{Integer, Varchar}
use Rattle.sql_values.specs.declared.column.ColumnDef.{ColumnDef}
use Rattle.sql_values.specs.Dictionary.{code_of, text_of}
use Rattle.sql_values.specs.Words.{value_of, IsWord}
use Rattle.sql_values.specs.Stored.{AreWords, IsRowOf, row_of}
use Rattle.sql_values.proofs.Stored.{text_of-code_of, IsTextWord-text_of, text_code_means}
use Rattle.heap_pages.specs.Rows.{cut_rows}
use Rattle.heap_pages.proofs.CutRows.{cut_rows-append_all}
use Rattle.db_catalog.specs.Recoded.{recoded, recoded_row}
use Rattle.db_catalog.specs.Kept.{MeanRows, SameRows}
use Rattle.db_catalog.proofs.Cut.{cut_last}

-- the next word of a row
pub next_word : (codes : List ℤ) (columns : List ColumnDef) (row : List ℤ) (i : ℕ) (column : ColumnDef) (d : ℤ) → i < length columns → length row ≡ length columns →
    set (recoded_row codes (take i columns) (take i row) ++ drop i row) i (recoded codes (get_or columns i column).kind (get_or row i d)) ≡ recoded_row codes (take (i + 1) columns) (take (i + 1) row) ++ drop (i + 1) row
next_word codes columns row i column d here long = by columns row i here long ∙ ap (λ n. recoded_row codes (take n columns) (take n row) ++ drop n row) (sym (add-one i))
  where
    by : (columns : List ColumnDef) (row : List ℤ) (i : ℕ) → i < length columns → length row ≡ length columns →
        set (recoded_row codes (take i columns) (take i row) ++ drop i row) i (recoded codes (get_or columns i column).kind (get_or row i d)) ≡ recoded_row codes (take (suc i) columns) (take (suc i) row) ++ drop (suc i) row
    by [] row i here long = absurd (omega (arith, here))
    by (c ∷ cs) [] i here long = absurd (omega (arith, long))
    by (c ∷ cs) (w ∷ ws) zero here long = refl
    by (c ∷ cs) (w ∷ ws) (suc i) here long = ap (λ l. recoded codes c.kind w ∷ l) (by cs ws i (omega (arith, here)) (omega (arith, long)))

-- a word that stands before the others
pub word_kept : (codes : List ℤ) (columns : List ColumnDef) (row : List ℤ) (i : ℕ) (d : ℤ) → i < length columns → length row ≡ length columns →
    get_or (recoded_row codes (take i columns) (take i row) ++ drop i row) i d ≡ get_or row i d
word_kept codes [] row i d here long = absurd (omega (arith, here))
word_kept codes (c ∷ cs) [] i d here long = absurd (omega (arith, long))
word_kept codes (c ∷ cs) (w ∷ ws) zero d here long = refl
word_kept codes (c ∷ cs) (w ∷ ws) (suc i) d here long = word_kept codes cs ws i d (omega (arith, here)) (omega (arith, long))

-- rows at the front need only the front
cut_front : (width i : ℕ) (front rest : List ℤ) → length front ≡ i * width → cut_rows width i (front ++ rest) ≡ cut_rows width i front
cut_front width i front rest long =
    let no_more : i + 0 ≡ i = omega arith in
    ap (λ n. cut_rows width n (front ++ rest)) (sym no_more) ∙ cut_rows-append_all width i 0 front rest long ∙ append-nil (cut_rows width i front)

-- the next row
pub next_row : (f : List ℤ → List ℤ) (width i : ℕ) (words initial new : List ℤ) (n : ℕ) → n ≡ width → i * width + width ≤ length words → length new ≡ width →
    cut_rows width i words ≡ map f (cut_rows width i initial) → drop (i * width) words ≡ drop (i * width) initial → new ≡ f (take width (drop (i * width) words)) →
    (cut_rows width (i + 1) (put_mid (i * width) n words new) ≡ map f (cut_rows width (i + 1) initial)) × (drop ((i + 1) * width) (put_mid (i * width) n words new) ≡ drop ((i + 1) * width) initial)
next_row f width i words initial new n is_width within wide before rest is_new = (rows, behind)
  where
    front : length (take (i * width) words) ≡ i * width
    front = length-take-le (i * width) words (omega (arith, within))

    same_rows : cut_rows width i (put_mid (i * width) n words new) ≡ cut_rows width i words
    same_rows =
        cut_front width i (take (i * width) words) _ front
        ∙ sym (cut_front width i (take (i * width) words) (drop (i * width) words) front)
        ∙ ap (cut_rows width i) (take-append-drop (i * width) words)

    last : take width (drop (i * width) (put_mid (i * width) n words new)) ≡ new
    last = ap (take width) (drop_at (take (i * width) words) _ (i * width) front) ∙ take_at new _ width wide

    rows : cut_rows width (i + 1) (put_mid (i * width) n words new) ≡ map f (cut_rows width (i + 1) initial)
    rows =
        cut_last width i (put_mid (i * width) n words new)
        ∙ (λ j. (same_rows ∙ before) j ++ (last ∙ is_new ∙ ap (λ l. f (take width l)) rest) j ∷ [])
        ∙ sym (map-append f (cut_rows width i initial) (take width (drop (i * width) initial) ∷ []))
        ∙ ap (map f) (sym (cut_last width i initial))

    behind : drop ((i + 1) * width) (put_mid (i * width) n words new) ≡ drop ((i + 1) * width) initial
    behind =
        let place : i * width + width ≡ (i + 1) * width = omega arith in
        drop-put_mid (i * width) n words new ((i + 1) * width) (omega (arith, is_width, place)) (omega (arith, within)) (omega (arith, wide, is_width))
        ∙ ap (λ k. drop k words) (sym place) ∙ sym (drop-drop width (i * width) words) ∙ ap (drop width) rest ∙ drop-drop width (i * width) initial ∙ ap (λ k. drop k initial) place

-- what a place of the old texts got
pub record NewCode (new us : List (List ℕ)) (codes : List ℤ) (place : ℕ) : Type 0 where
  pub text : List ℕ
  pub code : ℤ
  pub at : slice_get codes place ≡ Some code
  pub was : slice_get us place ≡ Some text
  pub is : text_of new code ≡ Some text

new_code : (new us : List (List ℕ)) (codes : List ℤ) (place : ℕ) → map Some codes ≡ map (code_of new) us → place < length us → NewCode new us codes place
new_code new [] codes place coded there = absurd (omega (arith, there))
new_code new (u ∷ us) [] place coded there = cc
new_code new (u ∷ us) (code ∷ codes) zero coded there = let first : Some code ≡ code_of new u = cc in record { text = u; code = code; at = refl; was = refl; is = text_of-code_of new u code (sym first) }
new_code new (u ∷ us) (code ∷ codes) (suc place) coded there =
    let rest : map Some codes ≡ map (code_of new) us = cc in
    let c = new_code new us codes place rest (omega (arith, there)) in
    record { text = c.text; code = c.code; at = c.at; was = c.was; is = c.is }

module _ (texts new : List (List ℕ)) (codes : List ℤ) (coded : map Some codes ≡ map (code_of new) texts) where
  word_recoded : (kind : ColumnType) (word : ℤ) → IsWord texts kind word → IsWord new kind (recoded codes kind word) × (value_of new kind (recoded codes kind word) ≡ value_of texts kind word)
  word_recoded Integer word h = (tt, refl)
  word_recoded (Varchar n) (pos place) h =
      let c = new_code new texts codes place coded h in
      let code_is : unwrap_or (slice_get codes place) (pos place) ≡ c.code = ap (λ o. unwrap_or o (pos place)) c.at in (
        subst (λ w. IsWord new (Varchar n) w) (sym code_is) (IsTextWord-text_of new c.text c.code c.is),
        ap (value_of new (Varchar n)) code_is ∙ text_code_means new n c.text c.code c.is ∙ sym (text_code_means texts n c.text (pos place) c.was),
      )
  word_recoded (Varchar n) (negsuc k) h = (h, refl)

  row_recoded : (columns : List ColumnDef) (words : List ℤ) → AreWords texts columns words →
      AreWords new columns (recoded_row codes columns words) × (row_of new columns (recoded_row codes columns words) ≡ row_of texts columns words)
  row_recoded [] [] h = (h, refl)
  row_recoded [] (w ∷ ws) h = absurd h
  row_recoded (c ∷ cs) [] h = absurd h
  row_recoded (c ∷ cs) (w ∷ ws) h =
      let first = word_recoded c.kind w h.0 in
      let rest = row_recoded cs ws h.1 in
      ((first.0, rest.0), λ i. first.1 i ∷ rest.1 i)

  -- recoded rows mean what they meant
  pub rows_recoded : (columns : List ColumnDef) (rows : List (List ℤ)) → MeanRows texts columns rows → SameRows columns texts new rows (map (recoded_row codes columns) rows)
  rows_recoded columns [] h = record { mean = record { allowed = All-nil (AreWords new columns); fit = All-nil (λ words. IsRowOf columns (row_of new columns words)) }; same = refl }
  rows_recoded columns (row ∷ rows) h =
      let first = row_recoded columns row (All-head (AreWords texts columns) row rows h.allowed) in
      let rest = rows_recoded columns rows (record { allowed = All-tail (AreWords texts columns) row rows h.allowed; fit = All-tail (λ words. IsRowOf columns (row_of texts columns words)) row rows h.fit }) in
      record {
        mean = record {
          allowed = All-cons (AreWords new columns) _ _ first.0 rest.mean.allowed;
          fit = All-cons (λ words. IsRowOf columns (row_of new columns words)) _ _ (subst (IsRowOf columns) (sym first.1) (All-head (λ words. IsRowOf columns (row_of texts columns words)) row rows h.fit)) rest.mean.fit;
        };
        same = λ i. first.1 i ∷ rest.same i;
      }
