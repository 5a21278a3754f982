use Rattle.std.proofs.Common.{arith}
use Rattle.sql_parse.proofs.Pieces.{in_piece-first}
use Rattle.sql_parse.proofs.script.piece_end.Goals as goal

pub loop-end-init : goal.loop-end-init
loop-end-init c = record { within = omega arith; in_piece = in_piece-first c.args.text.now c.args.tokens.now }
