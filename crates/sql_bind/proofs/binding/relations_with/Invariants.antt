use Rattle.std.proofs.Common.{◌≡◌, length, map}
use Rattle.query_block.specs.Blocks.{relation_tree}
use Rattle.sql_bind.specs.Collected.{filter_trees, with_filters}
use Rattle.sql_bind.proofs.binding.relations_with.Given as goal

abbrev pub invariant-loop-filter : goal.invariant-loop-filter
invariant-loop-filter l =
    (length l.relations.items ≡ length l.yielded) × (map relation_tree l.relations.items ≡ with_filters l.scope (filter_trees l.yielded))
