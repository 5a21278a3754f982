-- Rows that are marked, as the bits of one number, and the words by which they are.
use Rattle.std.specs.Prelude.{ℕ, ℤ, ◌+◌, ◌*◌, ◌&&◌, Bool, List, [], ◌∷◌, int_le, if◌then◌else◌}

-- whether a word is one of those from one up to another, both included
abbrev pub is_among : (from to word : ℤ) → Bool
is_among from to word = int_le from word && int_le word to

-- marks as one number: bit k, counted from the least, is that of place k
abbrev pub marks_of : List Bool → ℕ
marks_of [] = 0
marks_of (mark ∷ marks) = (if mark then 1 else 0) + 2 * marks_of marks
