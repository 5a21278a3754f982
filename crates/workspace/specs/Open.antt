-- What comes of OPEN.
use Rattle.std.specs.Prelude.{ℕ, List, Option, codes}
use Rattle.sql_values.specs.Steps.{Checked, pure, ◌>>=◌, ◌>>◌}
use Rattle.query_block.specs.Blocks.{BlockTree}
use Rattle.sql_parse.specs.Trees.{QueryTree}
use Rattle.sql_parse.specs.Canonical.{canonical_query}
use Rattle.cost_model.specs.Counts.{stats_of}
use Rattle.cost_model.specs.declared.stats.Stats.{Stats}
use Rattle.bouquet_file.specs.Opened.{file_of, json_value}
use Rattle.workspace.specs.Bouquets.{block_due, kept_as, product_refusal}
use Rattle.workspace.specs.Given.{at_file}
use Rattle.workspace.specs.declared.refusal.Refusal.{Refusal}
use Rattle.workspace.specs.declared.refusal.Refusal.TheVariants as refusal
use Rattle.workspace.specs.Outcome.{Outcome, or_refused, outcome_of, unless}
use Rattle.workspace.specs.World.{World, named_in}

-- the block of its query, for which a file is asked: the name is free, and the tables haven't too many combinations of rows
abbrev pub block_to_open : World → (name : List ℕ) → QueryTree → Checked Refusal BlockTree
block_to_open world name query = do
  unless (λ named. refusal.NameTaken name) (named_in name world.bouquets)
  block ← block_due world.database query
  unless (λ why. why) (product_refusal world.database block)
  pure block

-- the bouquet that these bytes say, for the query of this text, this block and these counts, is kept under the name with the text
abbrev pub open_with : World → (name text : List ℕ) → BlockTree → Stats → (bytes : List ℕ) → Outcome
open_with world name text block stats bytes = outcome_of do
  bouquet ← or_refused refusal.NotOpened (file_of (json_value bytes) text block stats)
  pure (kept_as (codes "-- open points=") world name text bouquet)

-- with the file that the folder gives under the name of the file, over the tables as they are
abbrev pub open_outcome : World → (name file_name : List ℕ) → QueryTree → (file : Option (List ℕ)) → Outcome
open_outcome world name file_name query file = outcome_of do
  block ← block_to_open world name query
  pure (at_file file_name (open_with world name (canonical_query query) block (stats_of world.database.tables block)) file)
