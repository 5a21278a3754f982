use Rattle.sql_lex.proofs.Lexings.{some_lexing, lexing_once}
use Rattle.sql_lex.proofs.script.one_lexing_is_due.Goals as goal

pub returns-clause-some : goal.returns-clause-some
returns-clause-some c = some_lexing

pub returns-clause-one : goal.returns-clause-one
returns-clause-one c = lexing_once
