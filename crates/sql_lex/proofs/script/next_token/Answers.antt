use Rattle.sql_lex.specs.Tokens.StandsAt.{end_here}
use Rattle.sql_lex.proofs.script.next_token.Goals as goal

pub returns-then-start-text : goal.returns-then-start-text
returns-then-start-text c = (c.gap_end-start.result, c.gap_end-start.ensures.gap, end_here c.if-start-text.true)
