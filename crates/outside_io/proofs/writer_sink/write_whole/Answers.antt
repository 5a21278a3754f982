-- What the next write took comes after what was written.
use Rattle.std.proofs.Common.{arith}
use Rattle.std.proofs.lemmas.Grind.{common_steps}
use Rattle.std.proofs.lemmas.List.{take_rest}
use Rattle.outside_io.proofs.Written.{HasWritten-more}
use Rattle.outside_io.proofs.writer_sink.write_whole.Goals as goal

pub loop-written-preserved : goal.loop-written-preserved
loop-written-preserved g c = grind (arith, common_steps, take_rest, HasWritten-more)
