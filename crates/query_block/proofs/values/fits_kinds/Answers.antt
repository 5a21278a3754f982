use Rattle.std.proofs.Common.{get_or, arith}
use Rattle.std.proofs.lemmas.Grind.{common_steps}
use Rattle.query_block.proofs.Fitting.{wrong-here}
use Rattle.query_block.proofs.values.fits_kinds.Goals as goal

pub returns-then-not-is_of_kind : goal.returns-then-not-is_of_kind
returns-then-not-is_of_kind c = grind (arith, common_steps, get_or, wrong-here)
