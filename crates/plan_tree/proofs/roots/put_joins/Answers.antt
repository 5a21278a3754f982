use Rattle.query_block.specs.Blocks.{block_tree}
use Rattle.plan_tree.specs.Listing.{join_by}
use Rattle.plan_tree.proofs.RootLists.{one-more}
use Rattle.plan_tree.proofs.roots.put_joins.Goals as goal

pub loop-left-preserved : goal.loop-left-preserved
loop-left-preserved c =
    let join = join_by (block_tree c.args.block.now) c.args.kind c.args.edge in
    one-more (block_tree c.args.block.now) c.args.set join _ _ _ _ c.loop-left.left
    c.loop-left.invariant c.in_ok-put.ensures c.join_by.ensures
