use Rattle.std.proofs.Common.{All, take}
use Rattle.query_block.specs.Blocks.{relation_tree}
use Rattle.db_catalog.specs.Fits.{FitsTable}
use Rattle.db_catalog.proofs.database.Database.fits.Given as goal

abbrev pub invariant-loop-relation : goal.invariant-loop-relation
invariant-loop-relation l = All (λ relation. FitsTable l.self (relation_tree relation)) (take l.relation-index l.relation-items)
