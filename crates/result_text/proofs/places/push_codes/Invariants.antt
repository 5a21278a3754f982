use Rattle.std.proofs.Common.{◌≡◌, ◌++◌, take}
use Rattle.result_text.specs.Placing.{text_codes}
use Rattle.result_text.proofs.places.push_codes.Given as goal

abbrev pub invariant-loop-place : goal.invariant-loop-place
invariant-loop-place l = l.codes.items ≡ l.fn.codes.items ++ text_codes (take l.place l.kinds) l.row
