-- The script is too long, or one of the two readers says what it is.
use Rattle.std.proofs.Common.{map, arith}
use Rattle.sql_parse.specs.Trees.{statement_tree}
use Rattle.shell.specs.Serve.IsScript.{too_long, no_statement, has_statements}
use Rattle.shell.proofs.TokensFew.{counted_few}
use Rattle.shell.proofs.script.read_script.Goals as goal

pub returns-then-script-gt-MAX_SCRIPT_BYTES-clause-refused : goal.returns-then-script-gt-MAX_SCRIPT_BYTES-clause-refused
returns-then-script-gt-MAX_SCRIPT_BYTES-clause-refused c = too_long (omega arith)

pub returns-in-Err-clause-refused : goal.returns-in-Err-clause-refused
returns-in-Err-clause-refused c = c.no_token.ensures c.args.script.now (omega arith) c.in-Err.ensures.offends

pub returns-in-Ok-read_script-clause-read : goal.returns-in-Ok-read_script-clause-read
returns-in-Ok-read_script-clause-read c =
    has_statements (omega arith) c.in-Ok.tokens.items c.in-Ok.ensures.found (map statement_tree c.in-Ok-read_script.statements.items) (rw c.deref.ensures.value at c.in-Ok-read_script.ensures.found)

pub returns-in-Err-Syntax-clause-refused : goal.returns-in-Err-Syntax-clause-refused
returns-in-Err-Syntax-clause-refused c =
    no_statement (omega arith) c.in-Ok.tokens.items c.in-Ok.ensures.found c.in-Err-Syntax.place (rw (c.in-Err-Syntax.field-0-is, c.deref.ensures.value) at c.in-Err-Syntax.ensures.refused)

pub returns-in-Ok-read_script-clause-counted : goal.returns-in-Ok-read_script-clause-counted
returns-in-Ok-read_script-clause-counted c =
    counted_few c.args.script.now c.in-Ok.tokens.items c.in-Ok-read_script.statements.items (omega arith) c.in-Ok.ensures.found
    (rw c.deref.ensures.value at c.in-Ok-read_script.ensures.counted)
