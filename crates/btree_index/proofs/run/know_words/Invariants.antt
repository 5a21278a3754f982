use Rattle.std.proofs.Common.{take}
use Rattle.btree_index.specs.Entries.{HaveWords}
use Rattle.btree_index.proofs.run.know_words.Given as goal

abbrev pub invariant-loop-place : goal.invariant-loop-place
invariant-loop-place l = HaveWords (take l.place l.entries)
