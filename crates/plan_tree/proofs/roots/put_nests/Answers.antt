use Rattle.std.proofs.Common.{refl}
use Rattle.query_block.specs.Blocks.{block_tree}
use Rattle.plan_tree.specs.declared.roots.Root.TheVariants as root
use Rattle.plan_tree.proofs.RootLists.{one-more}
use Rattle.plan_tree.proofs.roots.put_nests.Goals as goal

pub loop-left-preserved : goal.loop-left-preserved
loop-left-preserved c =
    one-more (block_tree c.args.block.now) c.args.set (λ left. root.Nest left) _ _ _ _ c.loop-left.left
    c.loop-left.invariant c.in_ok-put.ensures refl
