use Rattle.std.proofs.Common.{◌≡◌, map}
use Rattle.query_block.specs.Blocks.{block_tree}
use Rattle.plan_tree.specs.AllPlans.{plans_below}
use Rattle.plan_tree.proofs.PlanCounts.{plan_count}
use Rattle.plan_tree.proofs.enumerate.count_plans.Given as goal

abbrev pub invariant-loop-set : goal.invariant-loop-set
invariant-loop-set l = l.counts.items ≡ map plan_count (plans_below (block_tree l.block) l.set)
