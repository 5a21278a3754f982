-- What comes of LOAD.
use Rattle.std.specs.Prelude.{ℕ, List, length, Option}
use Rattle.sql_values.specs.Steps.{pure, need, ◌>>=◌}
use Rattle.sql_parse.specs.declared.tree.LoadDef.{LoadDef}
use Rattle.db_catalog.specs.Database.{table_number, with_rows}
use Rattle.csv_load.specs.Load.{load_due}
use Rattle.workspace.specs.declared.refusal.Refusal.TheVariants as refusal
use Rattle.workspace.specs.Given.{at_file}
use Rattle.workspace.specs.Outcome.{Outcome, Prints, or_refused, outcome_of}
use Rattle.workspace.specs.Printed.{load_line}
use Rattle.workspace.specs.World.{World, with_database}

-- the rows of these bytes are appended to the table of this number
abbrev pub load_bytes : World → ℕ → (bytes : List ℕ) → Outcome
load_bytes world number bytes = outcome_of do
  rows ← or_refused refusal.NotLoaded (load_due world.database number bytes)
  pure (Prints (load_line (length rows)) 0 (with_database world (with_rows world.database number rows)))

-- with the file that the folder gives under the name that it loads
abbrev pub load_outcome : World → LoadDef → (file : Option (List ℕ)) → Outcome
load_outcome world load file = outcome_of do
  number ← need (refusal.NoTable load.table) (table_number world.database load.table)
  pure (at_file load.file (load_bytes world number) file)
