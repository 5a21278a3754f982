use Rattle.std.proofs.Common.{arith, slice_index_or}
use Rattle.std.proofs.lemmas.Grind.{common_steps}
use Rattle.std.proofs.lemmas.Int.{to_z-of_z}
use Rattle.query_block.proofs.Words.{length-words, word-at, value-at}
use Rattle.query_block.proofs.predicate.column_cell.Goals as goal

pub bounds-row-place-2 : goal.bounds-row-place-2
bounds-row-place-2 c = omega (arith, length-words _ _ _ c.requires.row)

pub cell_of-requires : goal.cell_of-requires
cell_of-requires c = grind (arith, common_steps, slice_index_or, to_z-of_z, word-at)

pub returns-clause-value : goal.returns-clause-value
returns-clause-value c = grind (arith, common_steps, slice_index_or, to_z-of_z, value-at)
