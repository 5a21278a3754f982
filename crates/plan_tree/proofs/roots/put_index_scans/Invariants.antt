use Rattle.std.proofs.Common.{◌≡◌, ◌++◌}
use Rattle.std.specs.List.{flat_map, range_with_len}
use Rattle.query_block.specs.Blocks.{block_tree}
use Rattle.plan_tree.specs.AllPlans.{column_scans, standing}
use Rattle.plan_tree.proofs.roots.put_index_scans.Given as goal

abbrev pub invariant-loop-relation : goal.invariant-loop-relation
invariant-loop-relation l = l.into.items ≡ l.fn.into.items ++ standing (block_tree l.block) l.set (flat_map (column_scans (block_tree l.block)) (range_with_len 0 l.relation))
