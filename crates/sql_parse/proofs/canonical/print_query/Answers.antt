use Rattle.std.proofs.Common.{◌∙◌}
use Rattle.sql_parse.specs.Trees.{query_tree}
use Rattle.sql_parse.specs.Canonical.{query_parts}
use Rattle.sql_parse.proofs.Written.{text_of-put}
use Rattle.sql_parse.proofs.canonical.print_query.Goals as goal

pub returns : goal.returns
returns c = c.into_text.ensures ∙ text_of-put _ _ (query_parts (query_tree c.args.query.now)) c.new-writer.ensures c.in_ok-print_select.ensures
