use Rattle.known_rows.proofs.Laws.{allowed-known}
use Rattle.known_rows.proofs.law.what_is_allowed_is_known.Goals as goal

pub returns : goal.returns
returns c = allowed-known
