-- The words of the rows on one page.
use Rattle.std.proofs.Common.{◌≡◌, ℕ, ◌+◌, ◌*◌, ◌<◌, ◌≤◌, Some, length, take, drop, ap, ◌∙◌, arith}
use Rattle.std.specs.Prelude.{ℤ, List, slice_get}
use Rattle.std.proofs.Math.Nat.{mul-le-mul_right}
use Rattle.std.proofs.lemmas.List.{length-take, length-drop}
use Rattle.heap_pages.specs.Layout.{PagesState, IsLaidOut}
use Rattle.heap_pages.specs.Rows.{cut_rows, pages_of, rows_per_page, rows_on_page, row_number}
use Rattle.heap_pages.proofs.CutRows.{slice_get-part}
use Rattle.heap_pages.proofs.PageStarts.{page_start, words_before}

module _ (columns per_page reciprocal rows spare : ℕ) (pages : PagesState) (laid : IsLaidOut columns per_page reciprocal rows spare pages)
    (page count : ℕ) (there : page < pages_of columns rows) (is : count ≡ rows_on_page columns rows page) where
  rows_end : page * rows_per_page columns + count ≤ rows
  rows_end = omega (arith, page_start rows (rows_per_page columns) page there, is)

  place : page * pages.size + count * columns ≡ (page * rows_per_page columns + count) * columns
  place = words_before page (rows_per_page columns) count columns pages.size (laid.whole_rows ∙ ap (λ per. per * columns) laid.full_page)

  begin : page * pages.size ≡ page * rows_per_page columns * columns
  begin =
      let first = words_before page (rows_per_page columns) 0 columns pages.size (laid.whole_rows ∙ ap (λ per. per * columns) laid.full_page) in
      omega (arith, first)

  -- they end with the last word of all rows at the latest
  pub words_end : page * pages.size + count * columns ≤ length pages.words
  words_end =
      let most : (page * rows_per_page columns + count) * columns ≤ rows * columns = mul-le-mul_right columns rows_end in
      omega (arith, place, most, laid.words_fill_rows)

  pub filled : (words : List ℤ) → words ≡ take (count * columns) (drop (page * pages.size) pages.words) → length words ≡ count * columns
  filled words cut =
      omega (arith, ap length cut, length-take (count * columns) (drop (page * pages.size) pages.words), length-drop (page * pages.size) pages.words, words_end)

  pub slots : (words : List ℤ) → words ≡ take (count * columns) (drop (page * pages.size) pages.words) → (slot : ℕ) → slot < count
      → slice_get (cut_rows columns rows pages.words) (row_number columns page slot) ≡ Some (take columns (drop (slot * columns) words))
  slots words cut slot below =
      slice_get-part columns rows (page * rows_per_page columns) count slot pages.words words
      (cut ∙ ap (λ k. take (count * columns) (drop k pages.words)) begin) below rows_end
