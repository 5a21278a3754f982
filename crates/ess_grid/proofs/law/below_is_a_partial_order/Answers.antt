use Rattle.std.proofs.Common.{arith}
use Rattle.std.proofs.lemmas.Grind.{common_steps}
use Rattle.ess_grid.proofs.PointOrder.{length-below, level-below, PointBelow-from_levels, PointBelow-refl, PointBelow-trans, PointBelow-antisym}
use Rattle.ess_grid.proofs.law.below_is_a_partial_order.Goals as goal

pub returns-clause-order : goal.returns-clause-order
returns-clause-order c = record { reflexive = PointBelow-refl; transitive = PointBelow-trans; antisymmetric = PointBelow-antisym }

pub returns-clause-every_axis : goal.returns-clause-every_axis
returns-clause-every_axis c = grind (arith, common_steps, length-below, level-below, PointBelow-from_levels)
