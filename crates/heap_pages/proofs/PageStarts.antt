-- Where pages begin and end, in rows and in words.
use Rattle.std.proofs.Common.{◌≡◌, ℕ, ◌+◌, ◌-◌, ◌*◌, ◌/◌, ◌^◌, ◌<◌, ◌≤◌, length, arith}
use Rattle.std.proofs.Math.Nat.{div-le_self, div-mul-le_self, mul-le-mul_right, lt_of_mul-lt-mul_right}
use Rattle.std.proofs.lemmas.Nat.{le-div, mul-le}
use Rattle.heap_pages.proofs.Reciprocal.{by_reciprocal}
use Rattle.heap_pages.specs.Limits.{page_words, max_rows}
use Rattle.heap_pages.specs.Layout.{PagesState, IsLaidOut}
use Rattle.heap_pages.specs.Rows.{rows_per_page}

-- a page that is there begins before the last row
pub page_start : (rows per_page page : ℕ) → page < (rows + (per_page - 1)) / per_page → page * per_page ≤ rows
page_start rows per_page page there =
    let upto : (page + 1) * per_page ≤ (rows + (per_page - 1)) / per_page * per_page = mul-le-mul_right per_page (omega (arith, there)) in
    omega (arith, upto, div-mul-le_self (rows + (per_page - 1)) per_page)

-- the page of a row begins no later than the row, and ends behind it
pub page_around : (i per_page number : ℕ) → 1 ≤ per_page → number ≡ i / per_page → (number * per_page ≤ i) × (i < number * per_page + per_page)
page_around i per_page number some is = rw is (div-mul-le_self i per_page, omega arith)

-- a page that begins before the end of all pages is one of them
pub page_before : (number count size : ℕ) → number * size < count * size → number < count
page_before number count size before = lt_of_mul-lt-mul_right size before

-- so many pages hold all rows
pub pages_enough : (rows per_page count : ℕ) → 1 ≤ per_page → (rows + (per_page - 1)) / per_page ≤ count → rows ≤ count * per_page
pages_enough rows per_page count some enough =
    let most : (rows + (per_page - 1)) / per_page * per_page ≤ count * per_page = mul-le-mul_right per_page enough in
    omega arith

-- the words before a row
pub words_before : (number per_page slot columns size : ℕ) → size ≡ per_page * columns → number * size + slot * columns ≡ (number * per_page + slot) * columns
words_before number per_page slot columns size whole = rw whole (grind arith)

module _ (columns per_page reciprocal rows spare : ℕ) (pages : PagesState) (laid : IsLaidOut columns per_page reciprocal rows spare pages) where
  -- a page has a row
  pub some_rows : 1 ≤ per_page
  some_rows = grind (arith, laid.some_columns, laid.few_columns, laid.full_page)

  -- the reciprocal divides the number of a row by the rows of a page
  pub page_divided : (i : ℕ) → i ≤ rows → i * reciprocal / 2 ^ 40 ≡ i / rows_per_page columns
  page_divided i there =
      let some = some_rows in
      let rows_most : i + 1 ≤ max_rows + 1 = omega (arith, laid.few_rows) in
      let page_most : per_page ≤ page_words = rw laid.full_page (div-le_self page_words columns) in
      let few : (i + 1) * per_page ≤ 2 ^ 40 = omega (arith, mul-le (i + 1) per_page (max_rows + 1) page_words rows_most page_most) in
      let below : i < 2 ^ 40 / per_page = omega (arith, le-div (i + 1) (2 ^ 40) per_page some few) in
      rw (laid.divides, ← laid.full_page) (by_reciprocal i per_page (2 ^ 40) some below)

  pub product_fits : (i : ℕ) → i ≤ rows → i * reciprocal < 2 ^ 64
  product_fits i there =
      let rows_most : i ≤ max_rows = omega (arith, laid.few_rows) in
      let most : reciprocal ≤ 2 ^ 40 + 1 = rw laid.divides (omega (arith, div-le_self (2 ^ 40) per_page)) in
      omega (arith, mul-le i reciprocal max_rows (2 ^ 40 + 1) rows_most most)

  -- the page of the next row begins before it
  pub words_begun : (number : ℕ) → number ≡ rows / rows_per_page columns → number * pages.size ≤ length pages.words
  words_begun number is =
      let page : number ≡ rows / per_page = rw laid.full_page is in
      let before : number * per_page ≤ rows = rw page (div-mul-le_self rows per_page) in
      let low : number * per_page * columns ≤ rows * columns = mul-le-mul_right columns before in
      let place = words_before number per_page 0 columns pages.size laid.whole_rows in
      omega (arith, low, place, laid.words_fill_rows)

  -- and has room for it
  pub words_fit : (number : ℕ) → number ≡ rows / rows_per_page columns → length pages.words + columns ≤ number * pages.size + pages.size
  words_fit number is =
      let some = some_rows in
      let page : number ≡ rows / per_page = rw laid.full_page is in
      let behind : rows + 1 ≤ number * per_page + per_page = rw page (omega arith) in
      let high : (rows + 1) * columns ≤ (number * per_page + per_page) * columns = mul-le-mul_right columns behind in
      let place = words_before number per_page per_page columns pages.size laid.whole_rows in
      omega (arith, high, place, laid.words_fill_rows, laid.whole_rows)

  -- pages that hold so many rows hold their words
  pub words_held : (all count : ℕ) → all ≤ count * per_page → all * columns ≤ count * pages.size
  words_held all count held =
      let high : all * columns ≤ count * per_page * columns = mul-le-mul_right columns held in
      let place = words_before count per_page 0 columns pages.size laid.whole_rows in
      omega (arith, high, place)
