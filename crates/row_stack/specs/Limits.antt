-- The limit of a stack.
use Rattle.std.specs.Prelude.{ℕ}

-- the most words of a row: those of six tables of 32 columns
abbrev pub max_width : ℕ
max_width = 192
