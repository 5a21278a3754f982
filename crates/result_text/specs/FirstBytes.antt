-- The first bytes of a text as one number.
use Rattle.std.specs.Prelude.{◌≡◌, ◌+◌, ◌*◌, ◌<◌, ℕ, zero, suc, List, slice_index}

-- so many bytes as one number, the first one the highest; a text that is shorter goes on with zeros
abbrev pub first_bytes : ℕ → List ℕ → ℕ
first_bytes zero text = 0
first_bytes (suc count) text = first_bytes count text * 256 + slice_index text count

-- this is the number of the text's first eight bytes
pub record IsFirst (first : ℕ) (text : List ℕ) : Type 0 where
  pub is : first ≡ first_bytes 8 text
  pub bytes : (k : ℕ) → slice_index text k < 256
