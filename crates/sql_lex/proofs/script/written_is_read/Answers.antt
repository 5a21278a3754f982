use Rattle.sql_lex.proofs.Spelled.{written_once}
use Rattle.sql_lex.proofs.script.written_is_read.Goals as goal

pub returns : goal.returns
returns c = written_once
