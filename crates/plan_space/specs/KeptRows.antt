-- Rows of entries that are kept, by the places of points.
use Rattle.std.specs.Prelude.{ℕ, ◌<◌, All, IfSome, List, [], Option, None, Some, length, map, slice_index_or}
use Rattle.plan_space.specs.declared.entry.Entry.{Entry}

-- the row of this number, if there is one
abbrev pub numbered_row : (rows : List (List Entry)) → (number : Option ℕ) → Option (List Entry)
numbered_row rows None = None
numbered_row rows (Some number) = Some (slice_index_or rows number [])

-- the row of each place, by their numbers
abbrev pub rows_by_places : (rows : List (List Entry)) → (numbers : List (Option ℕ)) → List (Option (List Entry))
rows_by_places rows numbers = map (numbered_row rows) numbers

-- each number is that of a row
abbrev pub AreRowNumbers : (rows : List (List Entry)) → (numbers : List (Option ℕ)) → Type 0
AreRowNumbers rows numbers = All (λ number. IfSome number (λ one. one < length rows)) numbers

-- the row that is kept at a place
abbrev pub kept_row_at : List (Option (List Entry)) → (place : ℕ) → Option (List Entry)
kept_row_at rows place = slice_index_or rows place None
