-- Bouquets that take turns, each with the block that is executed.
use Rattle.std.specs.Prelude.{◌≡◌, ◌<◌, ◌≤◌, ℕ, All, List, IfSome, length, map}
use Rattle.query_block.specs.Blocks.{IsPutOf, block_tree}
use Rattle.sql_parse.specs.declared.tree.RunDef.{RunDef}
use Rattle.db_catalog.specs.Database.{DatabaseState}
use Rattle.db_catalog.specs.Fits.{Fits}
use Rattle.bouquet_type.specs.Trees.{BouquetTree, bouquet_tree}
use Rattle.turns.specs.Standing.{JobTask}
use Rattle.turns.specs.declared.turn.Turn.{Turn}
use Rattle.workspace.specs.World.{World, bouquet_in}
use Rattle.session.specs.Bounds.{IsUsedWithin, LearnsWithinBound}
use Rattle.session.specs.declared.uses.Used.{Used}

-- what is asked of its job
abbrev pub task_of_use : (max_work : ℕ) → DatabaseState → Used → JobTask
task_of_use max_work database used = record { database = database; bouquet = bouquet_tree used.bouquet.now; block = block_tree used.block; most = max_work }

abbrev pub bouquets_of : List Used → List BouquetTree
bouquets_of all = map (λ used. bouquet_tree used.bouquet.now) all

-- a turn is of one of so many jobs, and not before its first
pub record IsTurnOf (count : ℕ) (turn : Turn) : Type 0 where
  pub job : turn.job < count
  pub place : 1 ≤ turn.place

-- it can be executed over a database: its block is the bouquet's own, with values in place of its parameters
pub record IsExecutable (database : DatabaseState) (used : Used) : Type 0 where
  pub put : IsPutOf (bouquet_tree used.bouquet.now).costing.block (block_tree used.block)
  pub fits : Fits database (block_tree used.block)

-- it can be executed, and with its values the bouquet of this name is within its bound, in a run that learns too
pub record IsUsedOf (world : World) (run : RunDef) (used : Used) : Type 0 where
  pub usable : IsExecutable world.database used
  pub within : IsUsedWithin world run
  pub learns : IfSome (bouquet_in run.name world.bouquets) (LearnsWithinBound world.database run.values)

-- they are as many, and each can be executed and is within its bound
pub record AreUsedOf (world : World) (runs : List RunDef) (all : List Used) : Type 0 where
  pub count : length all ≡ length runs
  pub usable : All (IsExecutable world.database) all
  pub within : All (IsUsedWithin world) runs
