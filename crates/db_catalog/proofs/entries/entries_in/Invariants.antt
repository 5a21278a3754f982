use Rattle.std.proofs.Common.{◌≡◌, take}
use Rattle.db_catalog.specs.Indexes.{word_entries}
use Rattle.db_catalog.proofs.entries.entries_in.Given as goal

abbrev pub invariant-loop-i : goal.invariant-loop-i
invariant-loop-i l = l.entries.items ≡ word_entries l.column 0 (take l.i l.heap.rows)
