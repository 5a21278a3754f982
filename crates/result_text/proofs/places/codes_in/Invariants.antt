use Rattle.std.proofs.Common.{◌≡◌, flat_map, take}
use Rattle.result_text.specs.Placing.{text_codes}
use Rattle.result_text.proofs.places.codes_in.Given as goal

abbrev pub invariant-loop-row : goal.invariant-loop-row
invariant-loop-row l = l.codes.items ≡ flat_map (text_codes l.kinds) (take l.row-index l.rows)
