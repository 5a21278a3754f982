use Rattle.std.proofs.Common.{◌≡◌, take}
use Rattle.result_text.specs.Rows.{words_of}
use Rattle.result_text.proofs.print.gather.Given as goal

abbrev pub invariant-loop-row : goal.invariant-loop-row
invariant-loop-row l = l.words.items ≡ words_of (take l.row-index l.rows)
