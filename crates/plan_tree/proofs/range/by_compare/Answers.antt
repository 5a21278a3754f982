use Rattle.std.proofs.Common.{arith}
use Rattle.std.proofs.lemmas.Grind.{common_steps}
use Rattle.std.proofs.lemmas.Bool.{and_left, and_right, ne_eqb, or_from}
use Rattle.plan_tree.proofs.range.by_compare.Goals as goal

pub returns-then-of-column : goal.returns-then-of-column
returns-then-of-column c = grind (arith, common_steps, ne_eqb, and_left, and_right, or_from)

pub returns-then-of-column-2 : goal.returns-then-of-column-2
returns-then-of-column-2 c = grind (arith, common_steps, ne_eqb, and_left, and_right, or_from)

pub returns-in-Column-right : goal.returns-in-Column-right
returns-in-Column-right c = grind (arith, common_steps, and_left, and_right, or_from)

pub returns-in-Parameter-right : goal.returns-in-Parameter-right
returns-in-Parameter-right c = grind (arith, common_steps, and_right)

pub returns-in-Parameter : goal.returns-in-Parameter
returns-in-Parameter c = grind (arith, common_steps, and_right)
