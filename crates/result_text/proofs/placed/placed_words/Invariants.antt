use Rattle.std.proofs.Common.{◌≡◌, List, take}
use Rattle.std.specs.List.{AllZip}
use Rattle.result_text.specs.Placing.{IsPlacedRow}
use Rattle.result_text.specs.Rows.{WordRow, words_of}
use Rattle.result_text.proofs.placed.placed_words.Given as goal

abbrev pub invariant-loop-row : goal.invariant-loop-row
invariant-loop-row l =
    (new : List WordRow) × (l.words.items ≡ words_of new) × AllZip (IsPlacedRow l.placed l.kinds) (take l.row-index l.rows) new
