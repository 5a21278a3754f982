-- White space and comments.
use Rattle.std.specs.Prelude.{ℕ, ◌+◌, Bool, ◌==◌, ◌&&◌, ◌||◌, List, slice_index, IsTrue}
use Rattle.sql_lex.specs.Bytes.{is_white}
use Rattle.sql_lex.specs.declared.byte.Run.TheVariants.{Comment}
use Rattle.sql_lex.specs.Run.{belongs, IsRun}

-- two minus signs
abbrev pub comment_begins : List ℕ → ℕ → Bool
comment_begins script place =
    (slice_index script place == 45) && (slice_index script (place + 1) == 45)

-- white space or a comment begins here
abbrev pub gap_begins : List ℕ → ℕ → Bool
gap_begins script place = is_white (slice_index script place) || comment_begins script place

-- white space and comments alone, one after another, from one place up to another. A comment is two minus signs, and all
-- bytes before the next line feed or the script's end
pub data IsGap (script : List ℕ) : (from end : ℕ) → Type 0 where
  nothing : (place : ℕ) → IsGap script place place
  white : (from end : ℕ) → IsTrue (is_white (slice_index script from))
      → IsGap script (from + 1) end → IsGap script from end
  comment : (from stop end : ℕ) → IsTrue (comment_begins script from) → IsRun (belongs Comment) script from stop
      → IsGap script stop end → IsGap script from end
