use Rattle.known_rows.proofs.Laws.{nothing-known}
use Rattle.known_rows.proofs.law.nothing_is_known_at_first.Goals as goal

pub returns : goal.returns
returns c = nothing-known
