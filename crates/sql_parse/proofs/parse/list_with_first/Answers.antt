use Rattle.std.proofs.Common.{arith}
use Rattle.std.proofs.lemmas.Grind.{common_steps}
use Rattle.std.proofs.lemmas.Result.{err_from_is_err_and}
use Rattle.std.proofs.Math.Nat.{sub-zero}
use Rattle.sql_parse.proofs.Lists.{list_with_first-first, list_with_first-end, more_at-end, more_at-zero, list_with_first-next, list_with_first-fails}
use Rattle.sql_parse.proofs.parse.list_with_first.Goals as goal

pub loop-turn-init : goal.loop-turn-init
loop-turn-init g c = grind (arith, common_steps, sub-zero, list_with_first-first)

pub returns-in_default : goal.returns-in_default
returns-in_default g c = grind (arith, common_steps, list_with_first-end, more_at-end)

pub returns-in_err-item : goal.returns-in_err-item
returns-in_err-item g c = grind (arith, common_steps, err_from_is_err_and, list_with_first-fails)

pub loop-turn-preserved : goal.loop-turn-preserved
loop-turn-preserved g c = grind (arith, common_steps, list_with_first-next)

pub returns : goal.returns
returns g c = grind (arith, common_steps, list_with_first-end, more_at-zero)
