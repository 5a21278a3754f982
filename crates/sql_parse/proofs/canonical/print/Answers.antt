use Rattle.std.proofs.Common.{◌∙◌}
use Rattle.sql_parse.specs.Trees.{statement_tree}
use Rattle.sql_parse.proofs.Written.{text_of-put}
use Rattle.sql_parse.specs.Statements.{statement_parts}
use Rattle.sql_parse.proofs.canonical.print.Goals as goal

pub returns : goal.returns
returns c = c.into_text.ensures ∙ text_of-put _ _ (statement_parts (statement_tree c.args.statement.now)) c.new-writer.ensures c.in_ok-print_statement.ensures
