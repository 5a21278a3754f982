use Rattle.std.proofs.Common.{◌≡◌, take}
use Rattle.result_text.proofs.sort.with_keys.Given as goal

abbrev pub invariant-loop-row : goal.invariant-loop-row
invariant-loop-row l = l.keyed.items ≡ take l.row-index l.rows
