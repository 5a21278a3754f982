use Rattle.std.proofs.Common.{◌≡◌, ◌++◌, take, drop}
use Rattle.db_catalog.specs.Recoded.{recoded_row}
use Rattle.db_catalog.proofs.recode.recode_row.Given as goal

abbrev pub invariant-loop-i : goal.invariant-loop-i
invariant-loop-i l = l.row ≡ recoded_row l.codes (take l.i l.columns) (take l.i l.initial.row) ++ drop l.i l.initial.row
