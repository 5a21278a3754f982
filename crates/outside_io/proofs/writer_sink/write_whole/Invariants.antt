-- The bytes that were written were appended.
use Rattle.std.proofs.Common.{◌-◌, length}
use Rattle.outside_io.proofs.Written.{HasWritten}
use Rattle.outside_io.proofs.writer_sink.write_whole.Given as goal

abbrev pub invariant-loop-written : goal.invariant-loop-written
invariant-loop-written g l =
    let contents = g.W.Write.contents in
    HasWritten (contents l.initial.writer) (contents l.writer) l.bytes l.written

abbrev pub decreases-loop-written : goal.decreases-loop-written
decreases-loop-written g l = length l.bytes - l.written
