use Rattle.std.proofs.Common.{◌≡◌, ◌++◌}
use Rattle.query_block.specs.Blocks.{block_tree}
use Rattle.plan_tree.specs.declared.roots.Root.TheVariants as root
use Rattle.plan_tree.specs.AllPlans.{one_each, standing}
use Rattle.plan_tree.proofs.roots.put_scans.Given as goal

abbrev pub invariant-loop-relation : goal.invariant-loop-relation
invariant-loop-relation l = l.into.items ≡ l.fn.into.items ++ standing (block_tree l.block) l.set (one_each (λ relation. root.Scan relation) l.relation)
