-- Who may do what with a file that was replaced.
use Rattle.std.specs.Prelude.{◌≡◌, ℕ, ◌+◌, ◌*◌, bit_and}

-- the bits of a mode by which its owner, its group and all others may read and write a file
abbrev pub read_and_write : ℕ
read_and_write = 6 * 64 + 6 * 8 + 6

-- a mode by which nobody may run it
abbrev pub NeverRuns : ℕ → Type 0
NeverRuns mode = bit_and mode read_and_write ≡ mode
