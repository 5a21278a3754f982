use Rattle.known_rows.proofs.Laws.{learned-known}
use Rattle.known_rows.proofs.law.what_is_learned_is_known.Goals as goal

pub returns : goal.returns
returns c = learned-known
