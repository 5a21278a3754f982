-- What is seen of a workspace, and the state of a script for which it stands.
use Rattle.std.specs.Prelude.{ℕ, ◌≤◌, List, All, length, map}
use Rattle.std.specs.Str.{IsUtf8}
use Rattle.query_block.specs.Blocks.{block_tree}
use Rattle.db_catalog.specs.Database.{DatabaseState}
use Rattle.db_catalog.specs.Fits.{Fits}
use Rattle.bouquet_type.specs.Shapes.{BouquetShape}
use Rattle.bouquet_type.specs.Trees.{bouquet_tree}
use Rattle.sql_values.specs.Limits.{max_parameters}
use Rattle.workspace.specs.Counted.{IsCountedBefore}
use Rattle.workspace.specs.declared.named_bouquets.KeptBouquet.{KeptBouquet}
use Rattle.workspace.specs.World.{NamedBouquet, World}

-- a bouquet under its name, with the canonical text of its query, as a workspace keeps it
pub record NamedShape : Type 0 where
  pub name : List ℕ
  pub query : List ℕ
  pub bouquet : BouquetShape

abbrev pub named_shape : (name : List ℕ) → KeptBouquet → NamedShape
named_shape name kept = record { name = name; query = kept.query.items; bouquet = kept.bouquet }

-- what is seen of a workspace: the database, and the bouquets in the order in which they came
pub record WorkspaceState : Type 0 where
  pub database : DatabaseState
  pub bouquets : List NamedShape

-- the same, as the state of a script has it
abbrev pub named_of : NamedShape → NamedBouquet
named_of kept = record { name = kept.name; query = kept.query; bouquet = bouquet_tree kept.bouquet }

-- the state of the script
abbrev pub world_of : WorkspaceState → World
world_of workspace = record { database = workspace.database; bouquets = map named_of workspace.bouquets }

-- what always holds of a workspace: the block of each bouquet fits the database and has no more parameters than a file may say, its
-- counts are those of the tables as they once were, and the text of its query is UTF-8
pub record IsWorkspace (workspace : WorkspaceState) : Type 0 where
  pub fit : All (λ kept. Fits workspace.database (block_tree kept.bouquet.block)) workspace.bouquets
  pub counted : All (λ kept. IsCountedBefore workspace.database (bouquet_tree kept.bouquet)) workspace.bouquets
  pub texts : All (λ kept. IsUtf8 kept.query) workspace.bouquets
  pub parameters : All (λ kept. length kept.bouquet.block.parameters ≤ max_parameters) workspace.bouquets
