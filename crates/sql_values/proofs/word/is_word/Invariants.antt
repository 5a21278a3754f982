use Rattle.std.proofs.Common.{◌≡◌, drop}
use Rattle.std.specs.Prelude.{bytes_eq}
use Rattle.std.specs.Str.{str_to_ascii_uppercase}
use Rattle.sql_values.proofs.word.is_word.Given as goal

abbrev pub invariant-loop-i : goal.invariant-loop-i
invariant-loop-i l = bytes_eq (str_to_ascii_uppercase l.word) l.upper ≡ bytes_eq (str_to_ascii_uppercase (drop l.i l.word)) (drop l.i l.upper)
