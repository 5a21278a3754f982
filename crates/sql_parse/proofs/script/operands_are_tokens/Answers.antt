use Rattle.sql_parse.proofs.Counted.{statement-counted}
use Rattle.sql_parse.proofs.script.operands_are_tokens.Goals as goal

pub returns : goal.returns
returns c = statement-counted
