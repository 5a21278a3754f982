-- How a heap keeps its rows: words in pages of one size, and what its fields have to do with one another.
use Rattle.std.specs.Prelude.{◌≡◌, ℕ, ℤ, min, ◌+◌, ◌-◌, ◌*◌, ◌/◌, ◌^◌, ◌<◌, ◌≤◌, List, [], ◌∷◌, ◌++◌, length, Vec}
use Rattle.std.specs.declared.alloc.Global.{Global}
use Rattle.heap_pages.specs.Limits.{page_words, max_rows, max_columns}
use Rattle.heap_pages.specs.Rows.{rows_per_page}

-- the words of pages, one page after the other
abbrev pub words_of_pages : List (Vec ℤ Global) → List ℤ
words_of_pages [] = []
words_of_pages (page ∷ pages) = page.items ++ words_of_pages pages

-- n words on pages of one size: each page is full until the words end, and has memory for as many as fit
abbrev pub AreFilled : ℕ → ℕ → List (Vec ℤ Global) → Type 0
AreFilled size n [] = n ≡ 0
AreFilled size n (page ∷ pages) = (length page.items ≡ min size n) × (size ≤ page.cap) × AreFilled size (n - size) pages

-- what is seen of pages: how many words fit on one, all words in order, and how many pages there are
pub record PagesState : Type 0 where
  pub size : ℕ
  pub words : List ℤ
  pub count : ℕ

-- the words end on this page, or right before it
pub record EndOn (pages : PagesState) (number : ℕ) : Type 0 where
  pub there : number < pages.count
  pub begun : number * pages.size ≤ length pages.words
  pub last : length pages.words ≤ number * pages.size + pages.size

pub record ArePackedPages (size : ℕ) (pages : List (Vec ℤ Global)) : Type 0 where
  pub some_words : 1 ≤ size
  pub few_words : size ≤ page_words
  pub filled : AreFilled size (length (words_of_pages pages)) pages

pub record IsLaidOut (columns per_page reciprocal rows spare : ℕ) (pages : PagesState) : Type 0 where
  pub some_columns : 1 ≤ columns
  pub few_columns : columns ≤ max_columns
  pub full_page : per_page ≡ rows_per_page columns
  pub divides : reciprocal ≡ 2 ^ 40 / per_page + 1
  pub whole_rows : pages.size ≡ per_page * columns
  pub few_rows : rows + spare ≤ max_rows
  pub words_fill_rows : length pages.words ≡ rows * columns
  pub room : rows + spare ≤ pages.count * per_page
