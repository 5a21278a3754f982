use Rattle.sql_parse.proofs.Scripts.{some_parsing, parsing_once}
use Rattle.sql_parse.proofs.script.one_parsing_is_due.Goals as goal

pub returns-clause-some : goal.returns-clause-some
returns-clause-some c = some_parsing

pub returns-clause-one : goal.returns-clause-one
returns-clause-one c = parsing_once
