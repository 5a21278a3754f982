use Rattle.std.proofs.Common.{arith}
use Rattle.std.proofs.lemmas.Grind.{common_steps}
use Rattle.std.proofs.lemmas.Result.{IfOk-from_err}
use Rattle.anorexic.proofs.cover.cover_table.Goals as goal

pub returns-in_err-add_point : goal.returns-in_err-add_point
returns-in_err-add_point c = IfOk-from_err c.from_residual-in_err-add_point.result _ c.from_residual-in_err-add_point.ensures.0

pub loop-at-preserved : goal.loop-at-preserved
loop-at-preserved c = grind (arith, common_steps)

pub returns : goal.returns
returns c = grind (arith, common_steps)
