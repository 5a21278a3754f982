use Rattle.sql_parse.proofs.CanonicalText.{canonical-read, text-once}
use Rattle.sql_parse.proofs.canonical.canonical_text_is_read.Goals as goal

pub returns-clause-read : goal.returns-clause-read
returns-clause-read c = λ tree is. canonical-read is.0 tree is.1

pub returns-clause-once : goal.returns-clause-once
returns-clause-once c = text-once
