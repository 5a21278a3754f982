-- What comes of CREATE TABLE.
use Rattle.std.specs.Prelude.{[]}
use Rattle.sql_parse.specs.declared.tree.TableDef.{TableDef}
use Rattle.sql_values.specs.Steps.{pure, ◌>>◌}
use Rattle.db_catalog.specs.Database.{new_table, with_table}
use Rattle.db_catalog.specs.Refused.{creation_fault}
use Rattle.workspace.specs.declared.refusal.Refusal.TheVariants as refusal
use Rattle.workspace.specs.Outcome.{Outcome, Prints, outcome_of, unless}
use Rattle.workspace.specs.World.{World, with_database}

-- a table is made
abbrev pub create_table_outcome : World → TableDef → Outcome
create_table_outcome world table = outcome_of do
  unless refusal.NotMade (creation_fault world.database table.name table.columns)
  pure (Prints [] 0 (with_database world (with_table world.database (new_table table.name table.columns))))
