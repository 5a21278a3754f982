use Rattle.std.proofs.Common.{arith}
use Rattle.std.proofs.lemmas.Grind.{common_steps}
use Rattle.sql_bind.proofs.Collected.{filters-nothing}
use Rattle.sql_bind.proofs.conjuncts.no_parts.Goals as goal

pub returns : goal.returns
returns c = grind (arith, common_steps, filters-nothing)
