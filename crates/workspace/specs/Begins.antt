-- How a statement begins that costs nothing, held against what is due to it, and what is to be done with the bytes of a file
-- that it asks for.
use Rattle.std.specs.Prelude.{◌≡◌, ℕ, ◌<◌, ◌≤◌, List, length, None, Option, Some, Result, Ok, Err, Vec}
use Rattle.std.specs.Str.{IsUtf8}
use Rattle.query_block.specs.Blocks.{block_tree}
use Rattle.db_catalog.specs.Fits.{Fits}
use Rattle.cost_model.specs.Counts.{stats_of}
use Rattle.cost_model.specs.Fits.{FitsBlock}
use Rattle.sql_values.specs.Limits.{max_parameters}
use Rattle.std.specs.declared.alloc.Global.{Global}
use Rattle.sql_parse.specs.Trees.{StatementTree}
use Rattle.workspace.specs.declared.begun.Asked.{Asked}
use Rattle.workspace.specs.declared.begun.Begun.{Begun}
use Rattle.workspace.specs.declared.begun.Begun.TheVariants as begun
use Rattle.workspace.specs.declared.begun.GivenFile.{GivenFile}
use Rattle.workspace.specs.declared.begun.Opening.{Opening}
use Rattle.workspace.specs.declared.begun.Pending.{Pending}
use Rattle.workspace.specs.declared.begun.Pending.TheVariants as pending
use Rattle.workspace.specs.declared.stop.Stop.{Stop}
use Rattle.workspace.specs.Files.{AsksForFile, WritesFile, asked_name}
use Rattle.workspace.specs.Given.{IsFileGiven, at_file}
use Rattle.workspace.specs.Load.{load_bytes}
use Rattle.workspace.specs.Open.{open_with}
use Rattle.workspace.specs.Outcome.{Outcome, Saves}
use Rattle.workspace.specs.Returns.{ReturnsFree}
use Rattle.workspace.specs.Stop.{StopsAt}
use Rattle.workspace.specs.World.{World, named_in}

-- what comes of the statement with these bytes
abbrev pub pending_outcome : World → Pending → (bytes : List ℕ) → Outcome
pending_outcome world (pending.Load table) bytes = load_bytes world table bytes
pending_outcome world (pending.Open opening) bytes = open_with world opening.name opening.query.items (block_tree opening.block) opening.stats bytes

-- the name is free; the block fits the database, has no more parameters than a file may say, its counts are those of the tables, and
-- the text is UTF-8
pub record CanOpen (world : World) (opening : Opening) : Type 0 where
  pub free : named_in opening.name world.bouquets ≡ None
  pub text : IsUtf8 opening.query.items
  pub fits : Fits world.database (block_tree opening.block)
  pub counts : opening.stats ≡ stats_of world.database.tables (block_tree opening.block)
  pub few : FitsBlock (block_tree opening.block) opening.stats
  pub parameters : length opening.block.parameters ≤ max_parameters

-- it belongs to this state of a script
abbrev pub BelongsTo : World → Pending → Type 0
BelongsTo world (pending.Load table) = table < length world.database.tables
BelongsTo world (pending.Open opening) = CanOpen world opening

-- the file is that of the statement, of which this comes with each file, and what comes of the file is due
pub record AsksAsDue (world : World) (statement : StatementTree) (outcome : Option (List ℕ) → Outcome) (asked : Asked) : Type 0 where
  pub asks : AsksForFile world statement
  pub name : asked_name statement ≡ Some asked.name
  pub text : IsUtf8 asked.name
  pub pending : BelongsTo world asked.pending
  pub due : (file : Option (List ℕ)) → outcome file ≡ at_file asked.name (pending_outcome world asked.pending) file

-- the file that is due is to be written
pub record SavesAsDue (world : World) (statement : StatementTree) (outcome : Option (List ℕ) → Outcome) (name : List ℕ) (bytes : Vec ℕ Global) : Type 0 where
  pub writes : WritesFile world statement name
  pub text : IsUtf8 name
  pub due : (file : Option (List ℕ)) → outcome file ≡ Saves name bytes.items

-- so a statement begins, of which this comes with each file, that costs nothing and leaves the state
abbrev pub BeginsFree : World → StatementTree → (outcome : Option (List ℕ) → Outcome) → Result Begun Stop → Type 0
BeginsFree world statement outcome (Ok (begun.Prints text)) = (file : Option (List ℕ)) → ReturnsFree (outcome file) (Ok text) world
BeginsFree world statement outcome (Ok (begun.Saves name bytes)) = SavesAsDue world statement outcome name bytes
BeginsFree world statement outcome (Ok (begun.Asks asked)) = AsksAsDue world statement outcome asked
BeginsFree world statement outcome (Err why) = (file : Option (List ℕ)) → StopsAt (outcome file) why

-- what a statement returns that asked for a file is due with each file for which the given value stands
abbrev pub FinishesAsDue : World → Asked → GivenFile → Result (Vec ℕ Global) Stop → (next : World) → Type 0
FinishesAsDue world asked given result next =
    (file : Option (List ℕ)) → IsFileGiven file given → ReturnsFree (at_file asked.name (pending_outcome world asked.pending) file) result next
