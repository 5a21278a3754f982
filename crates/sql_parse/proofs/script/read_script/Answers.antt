use Rattle.std.proofs.Common.{◌<◌, ◌^◌, length, arith}
use Rattle.std.proofs.lemmas.Result.{IfOk-weaker}
use Rattle.sql_parse.proofs.Scripts.{tokens-each}
use Rattle.sql_parse.proofs.WellFormed.{each-counted, each-well_formed}
use Rattle.sql_parse.proofs.script.read_script.Goals as goal

pub read-requires-clause-each : goal.read-requires-clause-each
read-requires-clause-each c = tokens-each c.args.text.now c.args.tokens.now c.requires

pub returns-clause-counted : goal.returns-clause-counted
returns-clause-counted c =
    IfOk-weaker c.read.result _ _ (λ statements form. each-counted c.args.text.now c.args.tokens.now statements.items (tokens-each c.args.text.now c.args.tokens.now c.requires) form) c.read.ensures.found

pub returns-clause-well_formed : goal.returns-clause-well_formed
returns-clause-well_formed c =
    let few : length c.args.tokens.now < 2 ^ 32 = omega arith in
    IfOk-weaker c.read.result _ _ (λ statements form. each-well_formed c.args.text.now c.args.tokens.now statements.items few (tokens-each c.args.text.now c.args.tokens.now c.requires) form) c.read.ensures.found
