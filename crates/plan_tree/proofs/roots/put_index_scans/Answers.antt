use Rattle.query_block.specs.Blocks.{block_tree}
use Rattle.plan_tree.specs.AllPlans.{column_scans}
use Rattle.plan_tree.proofs.RootLists.{each-more}
use Rattle.plan_tree.proofs.roots.put_index_scans.Goals as goal

pub loop-relation-preserved : goal.loop-relation-preserved
loop-relation-preserved c =
    each-more (block_tree c.args.block.now) c.args.set (column_scans (block_tree c.args.block.now)) _ _ _ c.loop-relation.relation
    c.loop-relation.invariant c.in_ok-put_column_scans.ensures
