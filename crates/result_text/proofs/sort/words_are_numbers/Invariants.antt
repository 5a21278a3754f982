use Rattle.std.proofs.Common.{take}
use Rattle.result_text.specs.Rows.{AreNumbers}
use Rattle.result_text.proofs.sort.words_are_numbers.Given as goal

abbrev pub invariant-loop-word : goal.invariant-loop-word
invariant-loop-word l = AreNumbers (take l.word-index l.row)
