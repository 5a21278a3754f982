use Rattle.std.proofs.Common.{length, ◌-◌, ◌≤◌}
use Rattle.sql_parse.proofs.Pieces.{IsInPiece}
use Rattle.sql_parse.proofs.script.piece_end.Given as goal

abbrev pub invariant-loop-end : goal.invariant-loop-end
invariant-loop-end l = record {
  within : l.end ≤ length l.tokens;
  in_piece : IsInPiece l.text l.tokens l.end;
}

abbrev pub decreases-loop-end : goal.decreases-loop-end
decreases-loop-end l = length l.tokens - l.end
