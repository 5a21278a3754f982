-- The tables of FROM.
use Rattle.std.specs.Prelude.{ℕ, ◌<◌, ◌≤◌, nat_eq, All, length, List}
use Rattle.std.specs.List.{IsDistinct}
use Rattle.sql_values.specs.declared.column.ColumnDef.{ColumnDef}
use Rattle.sql_values.specs.Limits.{max_columns, max_relations}

-- the name under which columns name it, its number in the database, its columns and its indexed columns
pub record NamedTable : Type 0 where
  pub alias : List ℕ
  pub number : ℕ
  pub columns : List ColumnDef
  pub indexed : List ℕ

-- a table of FROM has 1 to 32 columns, and different indexed columns among them
pub record IsNamed (table : NamedTable) : Type 0 where
  pub some : 1 ≤ length table.columns
  pub few : length table.columns ≤ max_columns
  pub indexed : All (λ column. column < length table.columns) table.indexed
  pub different : IsDistinct nat_eq table.indexed

-- the tables of FROM together: no more than a block may have
pub record IsScope (tables : List NamedTable) : Type 0 where
  pub few : length tables ≤ max_relations
  pub named : All IsNamed tables
