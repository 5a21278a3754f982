use Rattle.std.proofs.Common.{◌≡◌}
use Rattle.heap_pages.specs.Rows.{cut_rows}
use Rattle.db_catalog.specs.Indexes.{word_entries}
use Rattle.db_catalog.proofs.entries.entries_among.Given as goal

abbrev pub invariant-loop-i : goal.invariant-loop-i
invariant-loop-i l = l.entries.items ≡ word_entries l.column l.flat.first (cut_rows l.flat.width l.i l.flat.words.now)
