-- How a column keeps its words, and what is seen of it.
use Rattle.std.specs.Prelude.{ℕ, ℤ, ◌+◌, ◌^◌, ◌-◌, ◌<◌, ◌≤◌, List, length, map}
use Rattle.narrow_columns.specs.Codes.{IsWithin, word_of_code, word_of_rank}
use Rattle.narrow_columns.specs.declared.codes.Codes.{Codes}
use Rattle.narrow_columns.specs.declared.codes.Codes.TheVariants.{Bytes, Pairs, Quads, Words}

-- what is seen of a column: its words in order, from which word up to which it takes words, and for how many more
-- there is room
pub record ColumnState : Type 0 where
  pub words : List ℤ
  pub least : ℤ
  pub greatest : ℤ
  pub room : ℕ

-- the column takes this word without being made anew; NULL it always takes
abbrev pub IsTaken : ColumnState → ℤ → Type 0
IsTaken column word = IsWithin column.least column.greatest word

-- the codes that are kept
abbrev pub codes_in : Codes → List ℕ
codes_in (Bytes codes) = codes.items
codes_in (Pairs codes) = codes.items
codes_in (Quads codes) = codes.items
codes_in (Words codes) = codes.items

-- the greatest code of the width
abbrev pub top_code : Codes → ℕ
top_code (Bytes _) = 2 ^ 8 - 1
top_code (Pairs _) = 2 ^ 16 - 1
top_code (Quads _) = 2 ^ 32 - 1
top_code (Words _) = 2 ^ 64 - 1

-- for how many codes there is memory
abbrev pub codes_held : Codes → ℕ
codes_held (Bytes codes) = codes.cap
codes_held (Pairs codes) = codes.cap
codes_held (Quads codes) = codes.cap
codes_held (Words codes) = codes.cap

-- what is seen of codes above a base
abbrev pub column_state : (base : ℕ) → Codes → (room : ℕ) → ColumnState
column_state base codes room = record {
  words = map (word_of_code base) (codes_in codes);
  least = word_of_rank (base + 1);
  greatest = word_of_rank (base + top_code codes);
  room = room;
}

-- each code stands for a word of 64 bits, and the room is memory that is there
pub record IsNarrow (base : ℕ) (codes : Codes) (spare : ℕ) : Type 0 where
  pub fits : base + top_code codes < 2 ^ 64
  pub room : length (codes_in codes) + spare ≤ codes_held codes
