use Rattle.std.proofs.Common.{◌<◌, ap, arith, length, slice_index_or}
use Rattle.query_block.specs.declared.edge.ColumnAt.{ColumnAt}
use Rattle.query_block.specs.Blocks.{block_tree, IsPlace}
use Rattle.query_block.proofs.Combined.{place-inside, width-few}
use Rattle.result_text.proofs.projection.projected_places.Goals as goal

pub overflow_add-offset : goal.overflow_add-offset
overflow_add-offset c =
    let block = block_tree c.args.block.now in
    let told = c.projection-projection.ensures in
    let none : ColumnAt = record { relation = 0; column = 0 } in
    let at : ColumnAt = slice_index_or c.projection-projection.result.now c.loop-at.at-index none in
    let below : c.loop-at.at-index < length block.projection = omega (arith, ap length told.projection) in
    let is : IsPlace block.relations at = rw told.projection (told.block.projection c.loop-at.at-index none below) in
    omega (arith, c.offset.ensures, place-inside block at is, width-few block told.block)
