-- How many levels an index has.
use Rattle.std.specs.Prelude.{ℕ, zero, suc, ◌+◌, ◌^◌, Bool, nat_le, if◌then◌else◌}

-- how many entries a node has at most
abbrev pub node_entries : ℕ
node_entries = 64

-- the first number from `at` on that passes a test, which one of the next `more` does
abbrev pub least_from : (more at : ℕ) → (ℕ → Bool) → ℕ
least_from zero at test = at
least_from (suc more) at test = if test at then at else least_from more (at + 1) test

-- the least height of at least 1 at which a tree of such nodes has room for so many entries
abbrev pub height_of : (entries : ℕ) → ℕ
height_of entries = least_from entries 1 (λ levels. nat_le entries (node_entries ^ levels))
