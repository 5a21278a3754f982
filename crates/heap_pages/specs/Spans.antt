-- Rows of a table that follow one another, and the words of one column in them.
use Rattle.std.specs.Prelude.{ℕ, ℤ, pos, Bool, List, All, FitsSigned, drop, slice_index_or, take}
use Rattle.std.specs.Int.{w64}
use Rattle.narrow_columns.specs.Marks.{is_among}
use Rattle.heap_pages.specs.Rows.{Row}
use Rattle.heap_pages.specs.declared.spans.RowSpan.{RowSpan}

-- of a table's rows those of a span
abbrev pub rows_of_span : {A : Type 0} → RowSpan → List A → List A
rows_of_span span rows = take span.count (drop span.first rows)

-- a row's word in a column
abbrev pub column_word : (column : ℕ) → Row → ℤ
column_word column row = slice_index_or row column (pos 0)

-- whether it is among those from one word up to another, both included
abbrev pub has_among : (column : ℕ) → (from to : ℤ) → Row → Bool
has_among column from to row = is_among from to (column_word column row)

-- each of these rows has a word of 64 bits there
abbrev pub HaveColumnWords : (column : ℕ) → List Row → Type 0
HaveColumnWords column rows = All (λ row. FitsSigned w64 (column_word column row)) rows
