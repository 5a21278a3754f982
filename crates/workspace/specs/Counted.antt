-- The counts of a bouquet, and the tables that were counted for it.
use Rattle.std.specs.Prelude.{◌≡◌, List, ◌++◌, All}
use Rattle.sql_values.specs.Stored.{StoredTable, ValueRow}
use Rattle.plan_tree.specs.Work.{table_rows}
use Rattle.cost_model.specs.Counts.{stats_of}
use Rattle.db_catalog.specs.Database.{DatabaseState}
use Rattle.bouquet_type.specs.Trees.{BouquetTree}

-- its counts are those of these tables
abbrev pub HasCountsOf : List StoredTable → BouquetTree → Type 0
HasCountsOf tables bouquet = bouquet.costing.stats ≡ stats_of tables bouquet.costing.block

-- rows, and maybe more behind them
abbrev pub HaveGrown : (old new : List ValueRow) → Type 0
HaveGrown old new = (more : List ValueRow) × (new ≡ old ++ more)

-- its counts are those of tables as they once were, each of which has since only got rows behind those that it had
pub record IsCountedBefore (database : DatabaseState) (bouquet : BouquetTree) : Type 0 where
  pub tables : List StoredTable
  pub counts : HasCountsOf tables bouquet
  pub grown : All (λ relation. HaveGrown (table_rows tables relation) (table_rows database.tables relation)) bouquet.costing.block.relations
