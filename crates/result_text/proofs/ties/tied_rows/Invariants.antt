use Rattle.std.proofs.Common.{◌≡◌, ◌++◌, drop}
use Rattle.result_text.specs.Ties.{select}
use Rattle.result_text.proofs.ties.tied_rows.Given as goal

abbrev pub invariant-loop-place : goal.invariant-loop-place
invariant-loop-place l = l.tied.items ++ select (drop l.place l.ties) (drop l.place l.rows) ≡ select l.ties l.rows
