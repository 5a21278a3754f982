-- The tables of a block that fits a database.
use Rattle.std.proofs.Common.{ℕ, ◌<◌, List, All, length, map, []}
use Rattle.std.proofs.lemmas.List.{length-map}
use Rattle.query_block.specs.declared.block.Relation.{Relation}
use Rattle.query_block.specs.Blocks.{RelationTree, relation_at, relation_tree}
use Rattle.db_catalog.specs.Database.{DatabaseState}
use Rattle.db_catalog.specs.Fits.{FitsTable}

pub fits-at : (database : DatabaseState) (relations : List Relation) (number : ℕ) → number < length relations → All (FitsTable database) (map relation_tree relations)
    → FitsTable database (relation_at (map relation_tree relations) number)
fits-at database relations number there fit =
    let none : RelationTree = record { table = 0; columns = []; filter = []; indexes = [] } in
    fit number none (simp length-map there)
