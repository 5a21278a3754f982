use Rattle.std.proofs.Common.{◌≡◌, ◌++◌, drop}
use Rattle.sql_lex.specs.Values.{doubled}
use Rattle.sql_parse.proofs.writer.Writer.doubled.Given as goal

abbrev pub invariant-loop-byte : goal.invariant-loop-byte
invariant-loop-byte l =
    (l.self-inside.text.items ++ doubled (drop l.byte-index l.bytes) ≡ l.fn.self.text ++ doubled l.bytes)
    × (l.self-inside.joined ≡ l.fn.self.joined)
