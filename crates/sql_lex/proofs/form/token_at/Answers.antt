use Rattle.sql_lex.specs.Tokens.StandsAt.{token_here, past_limit}
use Rattle.sql_lex.proofs.form.token_at.Goals as goal

pub returns-in-None-clause-token : goal.returns-in-None-clause-token
returns-in-None-clause-token c =
    token_here c.in-Ok.form.0 c.in-Ok.form.1 (record { whole = c.in-Ok.ensures.whole; limit = c.in-None.ensures.keeps })

pub returns-in-Some-clause-fault : goal.returns-in-Some-clause-fault
returns-in-Some-clause-fault c =
    past_limit c.in-Ok.form.0 c.in-Ok.form.1 c.in-Some.kind c.in-Ok.ensures.whole c.in-Some.ensures.breaks c.in-Some.ensures.fault
