-- What bounds a stack.
use Rattle.std.specs.Prelude.{ℕ, ◌^◌, ◌≤◌}
use Rattle.row_stack.specs.Limits.{max_width}

-- a row has some words, and no more than a row may have
pub record IsWidth (width : ℕ) : Type 0 where
  pub some_words : 1 ≤ width
  pub few_words : width ≤ max_width

-- a stack has fewer words than these, since 63 bits count their bytes
abbrev pub word_limit : ℕ
word_limit = 2 ^ 60
