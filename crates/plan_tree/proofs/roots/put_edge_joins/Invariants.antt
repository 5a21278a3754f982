use Rattle.std.proofs.Common.{◌≡◌, ◌++◌}
use Rattle.std.specs.List.{flat_map, range_with_len}
use Rattle.query_block.specs.Blocks.{block_tree}
use Rattle.plan_tree.specs.AllPlans.{one_each, standing}
use Rattle.plan_tree.specs.Listing.{join_by}
use Rattle.plan_tree.proofs.roots.put_edge_joins.Given as goal

abbrev pub invariant-loop-edge : goal.invariant-loop-edge
invariant-loop-edge l = l.into.items ≡ l.fn.into.items ++ standing (block_tree l.block) l.set (flat_map (λ edge. one_each (join_by (block_tree l.block) l.kind edge) l.set) (range_with_len 0 l.edge))
