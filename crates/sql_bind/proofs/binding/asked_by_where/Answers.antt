use Rattle.std.proofs.Common.{option_map, arith}
use Rattle.std.proofs.lemmas.Grind.{common_steps}
use Rattle.sql_bind.proofs.Faults.{handed_on}
use Rattle.sql_bind.proofs.Whole.{axes-due}
use Rattle.sql_bind.proofs.binding.asked_by_where.Goals as goal

pub returns-clause-refuses : goal.returns-clause-refuses
returns-clause-refuses c = grind (arith, common_steps, axes-due, option_map)

pub returns-in_err-check_axes-clause-refuses : goal.returns-in_err-check_axes-clause-refuses
returns-in_err-check_axes-clause-refuses c = grind (arith, common_steps, axes-due, option_map, handed_on)
