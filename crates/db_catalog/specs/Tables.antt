-- What a database is at first, and what each of its tables has.
use Rattle.std.specs.Prelude.{◌≤◌, List, length}
use Rattle.sql_values.specs.declared.column.ColumnDef.{ColumnDef}
use Rattle.sql_values.specs.Limits.{max_columns}

-- a table has some columns, and no more than a table may have
pub record AreColumnsOfTable (columns : List ColumnDef) : Type 0 where
  pub some : 1 ≤ length columns
  pub few : length columns ≤ max_columns
