-- A stack as a list of rows of one width, and for how many more there is room.
use Rattle.std.specs.Prelude.{◌≡◌, ℕ, ℤ, ◌+◌, ◌^◌, ◌<◌, ◌≤◌, List, [], ◌++◌, length, All}
use Rattle.row_stack.specs.Limits.{max_width}

-- what is seen of a stack: how many words its rows have, the rows in order, the first pushed first, and how many more
-- fit into the memory that it has
pub record RowStackState : Type 0 where
  pub width : ℕ
  pub rows : List (List ℤ)
  pub spare : ℕ

-- how many rows fit into the memory that a stack has: those that are there, and those that are spare
abbrev pub room_of : RowStackState → ℕ
room_of stack = length stack.rows + stack.spare

-- a stack without rows and without memory
abbrev pub new_stack : ℕ → RowStackState
new_stack width = record { width = width; rows = []; spare = 0 }

-- what holds of every stack: each row has its width, and counts of rows fit 63 bits
pub record IsRowStack (stack : RowStackState) : Type 0 where
  pub some_words : 1 ≤ stack.width
  pub few_words : stack.width ≤ max_width
  pub wide : All (λ row. length row ≡ stack.width) stack.rows
  pub bounded : room_of stack < 2 ^ 63

-- rows are put behind those of a stack, and no room is lost
pub record Grows (old new : RowStackState) : Type 0 where
  pub rows : (more : List (List ℤ)) × (new.rows ≡ old.rows ++ more)
  pub width : new.width ≡ old.width
  pub room : room_of old ≤ room_of new

-- a stack has its rows, and no room is lost
pub record Stays (old new : RowStackState) : Type 0 where
  pub rows : new.rows ≡ old.rows
  pub width : new.width ≡ old.width
  pub room : room_of old ≤ room_of new
