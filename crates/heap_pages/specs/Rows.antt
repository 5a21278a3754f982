-- A table as a list of rows, and the pages on which they stand.
use Rattle.std.specs.Prelude.{min, ℕ, ℤ, zero, suc, ◌+◌, ◌-◌, ◌*◌, ◌/◌, ◌<◌, List, [], ◌∷◌, take, drop}
use Rattle.heap_pages.specs.Limits.{page_words}

-- a row has a word in each column
abbrev pub Row : Type 0
Row = List ℤ

-- what is seen of a heap: how many columns its table has, the rows in order, and for how many more there is room
pub record HeapState : Type 0 where
  pub columns : ℕ
  pub rows : List Row
  pub spare : ℕ

-- words (or values) that follow one another, cut into n rows of one width
abbrev pub cut_rows : {A : Type 0} → ℕ → ℕ → List A → List (List A)
cut_rows width zero words = []
cut_rows width (suc n) words = take width words ∷ cut_rows width n (drop width words)

-- how many whole rows stand on a page
abbrev pub rows_per_page : ℕ → ℕ
rows_per_page columns = page_words / columns

-- how many pages these rows take, all full but the last; no row takes none
abbrev pub pages_of : ℕ → ℕ → ℕ
pages_of columns rows = (rows + (rows_per_page columns - 1)) / rows_per_page columns

-- how many rows stand on this page
abbrev pub rows_on_page : ℕ → ℕ → ℕ → ℕ
rows_on_page columns rows page = min (rows_per_page columns) (rows - page * rows_per_page columns)

-- the number of the row in this slot of this page
abbrev pub row_number : ℕ → ℕ → ℕ → ℕ
row_number columns page slot = page * rows_per_page columns + slot

-- a page has such a slot, and one of so many rows stands in it
pub record IsSlot (columns rows page slot : ℕ) : Type 0 where
  pub on_page : slot < rows_per_page columns
  pub there : row_number columns page slot < rows
