-- The bouquet of a name, for the statements that rely on its counts.
use Rattle.std.specs.Prelude.{ℕ, List, Option}
use Rattle.sql_values.specs.Steps.{Checked, pure, need, ◌>>=◌, ◌>>◌}
use Rattle.cost_model.specs.declared.stale.Stale.{Stale}
use Rattle.table_stats.specs.Fresh.{first_stale}
use Rattle.db_catalog.specs.Database.{DatabaseState}
use Rattle.bouquet_type.specs.Trees.{BouquetTree}
use Rattle.workspace.specs.declared.refusal.Refusal.{Refusal}
use Rattle.workspace.specs.declared.refusal.Refusal.TheVariants as refusal
use Rattle.workspace.specs.Outcome.{unless}
use Rattle.workspace.specs.World.{World, named_in}

-- the first count of a bouquet that isn't that of its tables any more
abbrev pub stale_count : DatabaseState → BouquetTree → Option Stale
stale_count database bouquet = first_stale database 0 bouquet.costing.block.relations bouquet.costing.stats.relations

-- the bouquet of this name, whose counts have to be those of the tables
abbrev pub present_due : World → (name : List ℕ) → Checked Refusal BouquetTree
present_due world name = do
  named ← need (refusal.NoBouquet name) (named_in name world.bouquets)
  unless refusal.IsStale (stale_count world.database named.bouquet)
  pure named.bouquet
