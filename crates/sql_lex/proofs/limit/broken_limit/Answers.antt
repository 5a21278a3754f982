use Rattle.std.proofs.Common.{arith}
use Rattle.std.proofs.lemmas.Grind.{common_steps}
use Rattle.sql_lex.proofs.Texts.{text_limit}
use Rattle.sql_lex.proofs.limit.broken_limit.Goals as goal

pub returns-in-Ok-clause-keeps : goal.returns-in-Ok-clause-keeps
returns-in-Ok-clause-keeps c =
    (text_limit c.args.kind c.args.bytes.now c.in-Text.is c.requires).1 (rw c.between_quotes.ensures at c.in-Ok.ensures.cases.1)

pub returns-in-Err-clause-breaks : goal.returns-in-Err-clause-breaks
returns-in-Err-clause-breaks c = grind (arith, common_steps, text_limit)
