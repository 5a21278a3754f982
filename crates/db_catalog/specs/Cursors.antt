-- A cursor on the index of a column.
use Rattle.std.specs.Prelude.{ℕ, ◌<◌, Contains, length, Option, Result, IfOk, IfSome}
use Rattle.btree_index.specs.declared.index.Cursor.{Cursor}
use Rattle.btree_index.specs.Entries.{IsOn}
use Rattle.btree_index.specs.Cursors.{MovesOn}
use Rattle.db_catalog.specs.Database.{DatabaseState, table_at}
use Rattle.db_catalog.specs.Indexes.{index_at}

-- the column is indexed, and the cursor stands on the entries
pub record IsCursorOf (database : DatabaseState) (table column : ℕ) (cursor : Cursor) : Type 0 where
  pub indexed : Contains (table_at database table).indexed column
  pub placed : IsOn (index_at database table column) cursor

-- the cursor gives the row of its next entry, which is a row of the table
pub record GivesNext {E : Type 0} (database : DatabaseState) (table column : ℕ) (old new : Cursor) (result : Result (Option ℕ) E) : Type 0 where
  pub moves : MovesOn (index_at database table column) old new result
  pub there : IfOk result (λ row. IfSome row (λ i. i < length (table_at database table).rows))
