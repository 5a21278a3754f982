use Rattle.query_block.specs.Blocks.{block_tree}
use Rattle.plan_tree.specs.AllPlans.{one_each}
use Rattle.plan_tree.specs.Listing.{join_by}
use Rattle.plan_tree.proofs.RootLists.{each-more}
use Rattle.plan_tree.proofs.roots.put_edge_joins.Goals as goal

pub loop-edge-preserved : goal.loop-edge-preserved
loop-edge-preserved c =
    let block = block_tree c.args.block.now in
    each-more block c.args.set (λ edge. one_each (join_by block c.args.kind edge) c.args.set) _ _ _ c.loop-edge.edge
    c.loop-edge.invariant c.in_ok-put_joins.ensures
