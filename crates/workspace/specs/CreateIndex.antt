-- What comes of CREATE INDEX.
use Rattle.std.specs.Prelude.{ℕ, List, [], Option, map, position}
use Rattle.std.specs.Str.{bytes_eq}
use Rattle.sql_values.specs.Steps.{pure, need, ◌>>=◌, ◌>>◌}
use Rattle.sql_values.specs.declared.column.ColumnDef.{ColumnDef}
use Rattle.sql_parse.specs.declared.tree.IndexDef.{IndexDef}
use Rattle.db_catalog.specs.Database.{table_at, table_number, with_index}
use Rattle.db_catalog.specs.Refused.{index_fault}
use Rattle.workspace.specs.declared.refusal.Refusal.TheVariants as refusal
use Rattle.workspace.specs.Outcome.{Outcome, Prints, outcome_of, unless}
use Rattle.workspace.specs.World.{World, with_database}

-- the number of the column of this name, where there is one
abbrev pub column_number : List ColumnDef → List ℕ → Option ℕ
column_number columns name = position (bytes_eq name) (map (λ column. column.name) columns)

-- an index of a column of a table is made
abbrev pub create_index_outcome : World → IndexDef → Outcome
create_index_outcome world index = outcome_of do
  table ← need (refusal.NoTable index.table) (table_number world.database index.table)
  column ← need (refusal.NoColumn index.column) (column_number (table_at world.database table).columns index.column)
  unless refusal.NotMade (index_fault world.database index.name table column)
  pure (Prints [] 0 (with_database world (with_index world.database index.name table column)))
