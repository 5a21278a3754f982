use Rattle.sql_parse.proofs.Statements.{statements-same, statement_of-reads}
use Rattle.sql_parse.proofs.script.one_statement.Goals as goal

pub returns : goal.returns
returns c = let h = statement_of-reads in statements-same
