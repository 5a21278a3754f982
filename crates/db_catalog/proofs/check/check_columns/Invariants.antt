use Rattle.std.proofs.Common.{◌≡◌, [], map, take, drop}
use Rattle.db_catalog.specs.Refused.{columns_fault}
use Rattle.db_catalog.proofs.check.check_columns.Given as goal

abbrev pub invariant-loop-i : goal.invariant-loop-i
invariant-loop-i l = columns_fault [] l.columns ≡ columns_fault (map (λ column. column.name) (take l.i l.columns)) (drop l.i l.columns)
