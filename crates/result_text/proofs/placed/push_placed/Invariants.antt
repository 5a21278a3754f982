use Rattle.std.proofs.Common.{◌≡◌, ◌++◌, take}
use Rattle.result_text.specs.Placing.{IsPlacedRow}
use Rattle.result_text.specs.Rows.{WordRow}
use Rattle.result_text.proofs.placed.push_placed.Given as goal

abbrev pub invariant-loop-place : goal.invariant-loop-place
invariant-loop-place l =
    (new : WordRow) × (l.words.items ≡ l.fn.words.items ++ new) × IsPlacedRow l.placed (take l.place l.kinds) l.row new
