use Rattle.std.proofs.Common.{◌≡◌, ◌*◌, ◌≤◌, take}
use Rattle.sql_values.specs.Limits.{max_rows, max_columns}
use Rattle.db_catalog.specs.Kept.{kept_words}
use Rattle.db_catalog.proofs.database.words_in.Given as goal

abbrev pub invariant-loop-table : goal.invariant-loop-table
invariant-loop-table l = (l.words ≡ kept_words (take l.table-index l.tables)) × (l.words ≤ l.table-index * (max_rows * max_columns))
