use Rattle.std.proofs.Common.{◌≡◌, map, take}
use Rattle.learned_run.proofs.Looked.{row_at}
use Rattle.learned_run.proofs.rows.found_rows.Given as goal

abbrev pub invariant-loop-at : goal.invariant-loop-at
invariant-loop-at l = l.rows.items ≡ map row_at (take l.at-index l.points)
