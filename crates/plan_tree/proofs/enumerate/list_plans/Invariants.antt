use Rattle.std.proofs.Common.{◌≡◌, map}
use Rattle.query_block.specs.Blocks.{block_tree}
use Rattle.plan_tree.specs.Plans.{plan_tree}
use Rattle.plan_tree.specs.AllPlans.{plans_below}
use Rattle.plan_tree.proofs.enumerate.list_plans.Given as goal

abbrev pub invariant-loop-set : goal.invariant-loop-set
invariant-loop-set l = map (λ list. map plan_tree list.items) l.lists.items ≡ plans_below (block_tree l.block) l.set
