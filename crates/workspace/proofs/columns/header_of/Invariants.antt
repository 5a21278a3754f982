use Rattle.std.proofs.Common.{◌≡◌, ◌++◌, drop, map}
use Rattle.query_block.specs.Blocks.{block_tree}
use Rattle.workspace.specs.Printed.{column_name}
use Rattle.workspace.proofs.columns.header_of.Given as goal

abbrev pub invariant-loop-at : goal.invariant-loop-at
invariant-loop-at l =
    let names = map (column_name l.database (block_tree l.block).relations) in
    l.names.items ++ names (drop l.at-index l.projection) ≡ names l.projection
