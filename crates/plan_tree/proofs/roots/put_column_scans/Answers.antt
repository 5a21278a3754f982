use Rattle.std.proofs.Common.{refl}
use Rattle.query_block.specs.Blocks.{block_tree}
use Rattle.plan_tree.specs.declared.roots.Root.TheVariants as root
use Rattle.plan_tree.proofs.RootLists.{one-more}
use Rattle.plan_tree.proofs.roots.put_column_scans.Goals as goal

pub loop-column-preserved : goal.loop-column-preserved
loop-column-preserved c =
    one-more (block_tree c.args.block.now) c.args.set (λ column. root.IndexScan c.args.relation column) _ _ _ _ c.loop-column.column
    c.loop-column.invariant c.in_ok-put.ensures refl
