-- The files of statements: those that one may ask for, asks for, and writes.
use Rattle.std.specs.Prelude.{◌≡◌, ℕ, List, Option, Some, None, IsSome, IsOk}
use Rattle.sql_parse.specs.Trees.{StatementTree, Load, SaveFile, OpenFile}
use Rattle.db_catalog.specs.Database.{table_number}
use Rattle.workspace.specs.Open.{block_to_open}
use Rattle.workspace.specs.World.{World, named_in}

-- the name of the file that a statement may ask for: only LOAD and OPEN ask for one
abbrev pub asked_name : StatementTree → Option (List ℕ)
asked_name (Load load) = Some load.file
asked_name (OpenFile name file_name query) = Some file_name
asked_name other = None

-- a statement asks for a file: a LOAD into a table that is there, and an OPEN that isn't refused before; no other
abbrev pub AsksForFile : World → StatementTree → Type 0
AsksForFile world (Load load) = IsSome (table_number world.database load.table)
AsksForFile world (OpenFile name file_name query) = IsOk (block_to_open world name query)
AsksForFile world other = ⊥

-- a statement writes the file of this name: a SAVE of a bouquet that is there, and no other
abbrev pub WritesFile : World → StatementTree → (name : List ℕ) → Type 0
WritesFile world (SaveFile save) name = (name ≡ save.file) × IsSome (named_in save.name world.bouquets)
WritesFile world other name = ⊥
