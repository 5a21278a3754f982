use Rattle.std.proofs.Common.{◌≡◌, ◌++◌, false, drop}
use Rattle.sql_lex.specs.Values.{halved}
use Rattle.sql_lex.proofs.value.text_value.Given as goal

abbrev pub invariant-loop-byte : goal.invariant-loop-byte
invariant-loop-byte l = l.value.items ++ halved l.is_second (drop l.byte-index l.inside) ≡ halved false l.inside
