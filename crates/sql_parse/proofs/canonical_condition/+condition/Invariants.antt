use Rattle.sql_parse.specs.Reading.{separator_of}
use Rattle.sql_parse.specs.Printing.{is_group_in}
use Rattle.sql_parse.proofs.Written.{IsLeft}
use Rattle.sql_parse.proofs.canonical_condition.+condition.Given as goal

abbrev pub invariant-chain-loop-i : goal.invariant-chain-loop-i
invariant-chain-loop-i l = IsLeft (separator_of l.connective) (is_group_in l.connective) l.fn.writer l.writer l.parts l.i
