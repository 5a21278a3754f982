use Rattle.std.proofs.Common.{◌≡◌, ◌++◌, drop, map}
use Rattle.query_block.specs.Blocks.{block_tree}
use Rattle.query_block.specs.Combined.{word_place}
use Rattle.result_text.proofs.projection.projected_places.Given as goal

abbrev pub invariant-loop-at : goal.invariant-loop-at
invariant-loop-at l =
    let places = map (word_place (block_tree l.block)) in
    l.places.items ++ places (drop l.at-index l.projection) ≡ places l.projection
