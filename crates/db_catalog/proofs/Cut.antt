-- Rows that are cut off a list, one after another.
use Rattle.std.proofs.Common.{◌≡◌, ℕ, zero, suc, ◌+◌, ◌*◌, ◌<◌, List, [], ◌∷◌, ◌++◌, length, take, drop, get_or, refl, sym, ap, ◌∙◌, arith, add-one}
use Rattle.std.specs.Prelude.{IsSomeAnd, slice_get}
use Rattle.std.proofs.lemmas.List.{drop-drop}
use Rattle.heap_pages.specs.Rows.{cut_rows}
use Rattle.sql_values.specs.declared.value.Value.{Value}
use Rattle.sql_values.specs.declared.column.ColumnDef.{ColumnDef}
use Rattle.sql_values.specs.Stored.{ValueRow, IsValueOf, IsRowOf}

module _ {A : Type 0} (width : ℕ) where
  -- the last of the rows
  pub cut_last : (i : ℕ) (xs : List A) → cut_rows width (i + 1) xs ≡ cut_rows width i xs ++ take width (drop (i * width) xs) ∷ []
  cut_last i xs = ap (λ n. cut_rows width n xs) (add-one i) ∙ by i xs
    where
      by : (i : ℕ) (xs : List A) → cut_rows width (suc i) xs ≡ cut_rows width i xs ++ take width (drop (i * width) xs) ∷ []
      by zero xs = let none : 0 * width ≡ 0 = omega arith in ap (λ n. take width (drop n xs) ∷ []) (sym none)
      by (suc i) xs =
          let place : width + i * width ≡ suc i * width = omega arith in
          ap (λ rows. take width xs ∷ rows) (by i (drop width xs) ∙ ap (λ l. cut_rows width i (drop width xs) ++ take width l ∷ []) (drop-drop (i * width) width xs ∙ ap (λ n. drop n xs) place))

  -- row i
  pub get_or-cut_rows : (n i : ℕ) (xs : List A) (d : List A) → i < n → get_or (cut_rows width n xs) i d ≡ take width (drop (i * width) xs)
  get_or-cut_rows zero i xs d h = absurd (omega (arith, h))
  get_or-cut_rows (suc n) zero xs d h = let none : 0 * width ≡ 0 = omega arith in ap (λ k. take width (drop k xs)) (sym none)
  get_or-cut_rows (suc n) (suc i) xs d h =
      let place : width + i * width ≡ suc i * width = omega arith in
      get_or-cut_rows n i (drop width xs) d (omega (arith, h)) ∙ ap (take width) (drop-drop (i * width) width xs ∙ ap (λ k. drop k xs) place)

  pub long_cut : (n : ℕ) (xs : List A) → length (cut_rows width n xs) ≡ n
  long_cut zero xs = refl
  long_cut (suc n) xs = ap suc (long_cut n (drop width xs))

-- a value of a row that fits, in its column
pub fits_at : (columns : List ColumnDef) (row : ValueRow) (i : ℕ) (d : Value) → IsRowOf columns row → i < length row → IsSomeAnd (slice_get columns i) (λ column. IsValueOf column (get_or row i d))
fits_at [] [] i d h there = absurd (omega (arith, there))
fits_at [] (v ∷ row) i d h there = absurd h
fits_at (c ∷ columns) [] i d h there = absurd h
fits_at (c ∷ columns) (v ∷ row) zero d h there = h.0
fits_at (c ∷ columns) (v ∷ row) (suc i) d h there = fits_at columns row i d h.1 (omega (arith, there))
