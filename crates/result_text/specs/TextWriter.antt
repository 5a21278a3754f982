-- A writer of CSV over a vector, with its defaults.
use Rattle.std.specs.Prelude.{◌≡◌, ◌==◌, ◌&&◌, ◌||◌, ◌-◌, ◌^◌, not, min, ℕ, List, [], ◌++◌, length}
use Rattle.std.specs.declared.alloc.Global.{Global}
use Rattle.std.specs.declared.vec.Vec.{Vec}
use Rattle.csv.specs.Writing.{default_writer, fields_written, has_written, is_blank, row_body, writer_pending, writer_setup, writer_under}
use Rattle.csv.specs.declared.writer.Writer.{Writer}

abbrev pub TextWriter : Type 0
TextWriter = Writer (Vec ℕ Global)

-- what is in the vector, and what is still to go there
abbrev pub written : TextWriter → List ℕ
written w = (writer_under w).items ++ writer_pending w

-- the writer has written a text, and behind it these fields of a record that hasn't ended
pub record HasWritten (text : List ℕ) (fields : List (List ℕ)) (w : TextWriter) : Type 0 where
  pub defaults : writer_setup w ≡ default_writer
  pub bytes : written w ≡ text ++ row_body default_writer fields
  -- it counts the fields up to the greatest `usize`
  pub count : fields_written w ≡ min (length fields) (2 ^ 64 - 1)
  -- and notes whether one of them shows a byte
  pub blank : is_blank default_writer fields ≡ (not (has_written w) && ((length fields == 0) || (length fields == 1)))

-- the writer adds these fields to the record
pub record WritesFields (fields : List (List ℕ)) (old new : TextWriter) : Type 0 where
  pub adds : (text : List ℕ) (before : List (List ℕ)) → HasWritten text before old → HasWritten text (before ++ fields) new

-- the writer, which has begun no record, adds this text and has begun none
pub record WritesText (text : List ℕ) (old new : TextWriter) : Type 0 where
  pub adds : (before : List ℕ) → HasWritten before [] old → HasWritten (before ++ text) [] new
