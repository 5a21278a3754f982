-- What a push and a release make of a stack.
use Rattle.std.specs.Prelude.{◌≡◌, ℕ, ℤ, ◌-◌, ◌<◌, ◌≤◌, nat_lt, List, [], ◌∷◌, ◌++◌, length, max, take, if◌then◌else◌, Result, IsOk, IfOk, OnOk, OnErr}
use Rattle.row_stack.specs.Stack.{RowStackState, room_of}

-- a row more at the end. A full stack makes room for as many rows as there are, and at least 16
abbrev pub with_row : RowStackState → List ℤ → RowStackState
with_row stack row =
    let spare = if nat_lt 0 stack.spare then stack.spare else max (length stack.rows) 16 in
    record stack { rows = stack.rows ++ row ∷ []; spare = spare - 1 }

-- the first rows, so many of them, and the room of the others
abbrev pub released_to : (count : ℕ) → RowStackState → RowStackState
released_to count stack = record stack { rows = take count stack.rows; spare = room_of stack - count }

-- a push puts a row at the end and returns its place, or fails and changes nothing. Where a row is spare it can't fail
pub record Pushes {E : Type 0} (row : List ℤ) (old new : RowStackState) (result : Result ℕ E) : Type 0 where
  pub place : IfOk result (λ place. place ≡ length old.rows)
  pub pushed : OnOk result (new ≡ with_row old row)
  pub unchanged : OnErr result (new ≡ old)
  pub succeeds : 0 < old.spare → IsOk result
  pub no_room_lost : room_of old ≤ room_of new
