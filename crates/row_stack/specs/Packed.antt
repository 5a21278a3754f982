-- How a stack keeps its rows: one after another from the start of one block of words.
use Rattle.std.specs.Prelude.{◌≡◌, ℕ, ℤ, ◌*◌, ◌^◌, ◌<◌, ◌≤◌, List, [], map, Option, None, Some}
use Rattle.std.specs.List.{range_with_len}
use Rattle.std.specs.Fork.{slice_chunk}
use Rattle.row_stack.specs.Limits.{max_width}
use Rattle.row_stack.specs.declared.block.WordBlock.{WordBlock}

-- the words that are written
abbrev pub block_words : Option WordBlock → List ℤ
block_words None = []
block_words (Some block) = block.words

-- how many words there is room for
abbrev pub block_capacity : Option WordBlock → ℕ
block_capacity None = 0
block_capacity (Some block) = block.capacity

-- the first n rows of words that follow one another
abbrev pub rows_among : ℕ → ℕ → List ℤ → List (List ℤ)
rows_among width n words = map (slice_chunk words width) (range_with_len 0 n)

-- the words of the rows are written, and the memory is for the rows that are counted as room
pub record IsPacked (width rows room words capacity : ℕ) : Type 0 where
  pub some_words : 1 ≤ width
  pub few_words : width ≤ max_width
  pub filled : rows * width ≤ words
  pub there : rows ≤ room
  pub fits : capacity ≡ room * width
  pub small : capacity < 2 ^ 63
