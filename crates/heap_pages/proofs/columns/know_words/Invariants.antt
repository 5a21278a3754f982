-- The words so far have 64 bits each.
use Rattle.std.proofs.Common.{take, All, FitsSigned, w64}
use Rattle.heap_pages.proofs.columns.know_words.Given as goal

abbrev pub invariant-loop-place : goal.invariant-loop-place
invariant-loop-place l = All (FitsSigned w64) (take l.place l.words)
