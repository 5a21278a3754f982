-- When a block still stands over the tables of a database.
use Rattle.std.specs.Prelude.{◌≡◌, ◌<◌, All, Contains, length, map}
use Rattle.query_block.specs.Blocks.{RelationTree, BlockTree}
use Rattle.db_catalog.specs.Database.{DatabaseState, table_at}

-- the table is there, its columns hold these types in this order, and each of these columns is indexed
pub record FitsTable (database : DatabaseState) (relation : RelationTree) : Type 0 where
  pub there : relation.table < length database.tables
  pub columns : relation.columns ≡ map (λ column. column.kind) (table_at database relation.table).columns
  pub indexes : All (λ column. Contains (table_at database relation.table).indexed column) relation.indexes

-- so it is for each relation of the block
abbrev pub Fits : DatabaseState → BlockTree → Type 0
Fits database block = All (FitsTable database) block.relations
