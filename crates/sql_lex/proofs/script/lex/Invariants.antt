use Rattle.std.proofs.Common.{List, length, ◌++◌, ◌≤◌, ◌-◌}
use Rattle.std.specs.Prelude.{Option, Result}
use Rattle.sql_lex.specs.Tokens.{IsReading}
use Rattle.sql_lex.specs.declared.token.Token.{Token}
use Rattle.sql_lex.specs.declared.fault.LexFault.{LexFault}
use Rattle.sql_lex.proofs.script.lex.Given as goal

-- what is read from here on is read after the tokens so far
abbrev pub invariant-loop-tokens : goal.invariant-loop-tokens
invariant-loop-tokens l = record {
  in_text : l.end ≤ length l.text;
  read : (tokens : List Token) (last : Result (Option Token) LexFault)
      → IsReading l.text l.end tokens last → IsReading l.text 0 (l.tokens.items ++ tokens) last;
}

abbrev pub decreases-loop-tokens : goal.decreases-loop-tokens
decreases-loop-tokens l = length l.text - l.end
