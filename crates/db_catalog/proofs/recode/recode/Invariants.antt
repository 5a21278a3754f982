use Rattle.std.proofs.Common.{◌≡◌, ◌*◌, map, drop}
use Rattle.heap_pages.specs.Rows.{cut_rows}
use Rattle.db_catalog.specs.Recoded.{recoded_row}
use Rattle.db_catalog.proofs.recode.recode.Given as goal

abbrev pub invariant-loop-i : goal.invariant-loop-i
invariant-loop-i l =
    (cut_rows l.width l.i l.words ≡ map (recoded_row l.codes l.columns) (cut_rows l.width l.i l.initial.words))
    × (drop (l.i * l.width) l.words ≡ drop (l.i * l.width) l.initial.words)
