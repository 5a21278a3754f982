-- Rows that are put together, value after value, before a table gets them.
use Rattle.std.specs.Prelude.{List, [], ◌∷◌, ◌++◌, length, IsSomeAnd, slice_get}
use Rattle.sql_values.specs.declared.value.Value.{Value}
use Rattle.sql_values.specs.declared.column.ColumnDef.{ColumnDef}
use Rattle.sql_values.specs.Stored.{ValueRow, IsValueOf}

-- for which columns the rows are, the rows that are whole, and the front of the next one
pub record BatchState : Type 0 where
  pub columns : List ColumnDef
  pub rows : List ValueRow
  pub row : ValueRow

-- the value fits the next column, and there is one
abbrev pub FitsNext : BatchState → Value → Type 0
FitsNext batch value =
    IsSomeAnd (slice_get batch.columns (length batch.row)) (λ column. IsValueOf column value)

-- a value more in the next row
abbrev pub with_value : BatchState → Value → BatchState
with_value batch value = record batch { row = batch.row ++ value ∷ [] }

-- the next row is one of the rows
abbrev pub with_row_ended : BatchState → BatchState
with_row_ended batch = record batch { rows = batch.rows ++ batch.row ∷ []; row = [] }
