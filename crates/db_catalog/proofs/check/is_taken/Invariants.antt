use Rattle.std.proofs.Common.{◌≡◌, false, map, take}
use Rattle.sql_values.specs.Dictionary.{has_text}
use Rattle.db_catalog.proofs.check.is_taken.Given as goal

abbrev pub invariant-loop-column : goal.invariant-loop-column
invariant-loop-column l = has_text (map (λ column. column.name) (take l.column-index l.columns)) l.name ≡ false
