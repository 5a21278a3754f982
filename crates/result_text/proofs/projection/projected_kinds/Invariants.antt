use Rattle.std.proofs.Common.{◌≡◌, ◌++◌, drop, map}
use Rattle.query_block.specs.Blocks.{block_tree, kind_of}
use Rattle.result_text.proofs.projection.projected_kinds.Given as goal

abbrev pub invariant-loop-at : goal.invariant-loop-at
invariant-loop-at l =
    let kinds = map (kind_of (block_tree l.block).relations) in
    l.kinds.items ++ kinds (drop l.at-index l.projection) ≡ kinds l.projection
