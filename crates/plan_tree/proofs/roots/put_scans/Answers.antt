use Rattle.std.proofs.Common.{refl}
use Rattle.query_block.specs.Blocks.{block_tree}
use Rattle.plan_tree.specs.declared.roots.Root.TheVariants as root
use Rattle.plan_tree.proofs.RootLists.{one-more}
use Rattle.plan_tree.proofs.roots.put_scans.Goals as goal

pub loop-relation-preserved : goal.loop-relation-preserved
loop-relation-preserved c =
    one-more (block_tree c.args.block.now) c.args.set (λ relation. root.Scan relation) _ _ _ _ c.loop-relation.relation
    c.loop-relation.invariant c.in_ok-put.ensures refl
