use Rattle.known_rows.proofs.Laws.{found-known}
use Rattle.known_rows.proofs.law.what_is_found_is_known.Goals as goal

pub returns : goal.returns
returns c = found-known
