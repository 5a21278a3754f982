use Rattle.std.proofs.Common.{arith}
use Rattle.std.proofs.lemmas.Grind.{common_steps}
use Rattle.std.proofs.lemmas.List.Elements.{All-get_or, All-same}
use Rattle.plan_tree.proofs.LeftSides.{left-sides}
use Rattle.plan_tree.proofs.enumerate.plans_over.Goals as goal

pub put_trees-requires-clause-left : goal.put_trees-requires-clause-left
put_trees-requires-clause-left c = grind (arith, common_steps, All-get_or, All-same, left-sides)
