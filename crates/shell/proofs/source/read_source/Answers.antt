-- The loop reads on until a take gives nothing, or as many bytes are there as may be.
use Rattle.std.proofs.Common.{◌≡◌, length, arith}
use Rattle.shell.proofs.Scripts.{enough}
use Rattle.shell.proofs.Reading.{reading_on, read_full, read_last, takes_on}
use Rattle.shell.proofs.source.read_source.Goals as goal
use Rattle.shell.proofs.source.read_source.Goals.{else-loop-turn-test, then-loop-turn-test+in-Ok-eq0}

pub returns-in-Err-clause-bounded : goal.returns-in-Err-clause-bounded
returns-in-Err-clause-bounded g c =
    takes_on enough c.min-room.result c.loop-turn.bytes.items (g.S.Source.left c.args.source.now) (g.S.Source.left c.loop-turn.source) (g.S.Source.left c.take_block.new.source)
    (omega arith) c.loop-turn.invariant.0.split c.in-Err.ensures.bounded

pub loop-turn-preserved : goal.loop-turn-preserved
loop-turn-preserved g c = (
  reading_on enough c.loop-turn.turn c.in-Ok.field-0 c.loop-turn.bytes.items c.take_block.new.bytes.items (g.S.Source.left c.args.source.now) (g.S.Source.left c.loop-turn.source) (g.S.Source.left c.take_block.new.source)
      c.loop-turn.invariant.0 (omega arith) (omega (arith, c.in-Ok.ensures.within)) c.in-Ok.ensures.appended c.in-Ok.ensures.taken,
  omega arith,
  omega arith,
)

pub returns-clause-whole : goal.returns-clause-whole
returns-clause-whole g c = elim c.loop-turn-test.branch [
  | else-loop-turn-test w ↦
      let full : length c.loop-turn.bytes.items ≡ enough = omega arith in
      rw (w.source-is, w.bytes-is) (read_full enough c.loop-turn.bytes.items (g.S.Source.left c.args.source.now) (g.S.Source.left c.loop-turn.source) full c.loop-turn.invariant.0.split)
  | then-loop-turn-test+in-Ok-eq0 w ↦
      rw (w.source-is, w.bytes-is) (read_last enough c.loop-turn.bytes.items w.take_block.new.bytes.items (g.S.Source.left c.args.source.now) (g.S.Source.left c.loop-turn.source) (g.S.Source.left w.take_block.new.source)
      c.loop-turn.invariant.0.short (omega (arith, w.in-Ok-eq0.ensures.appended, w.in-Ok-eq0.field-0-test)) c.loop-turn.invariant.0.split w.in-Ok-eq0.ensures.taken (λ not_full. w.in-Ok-eq0.ensures.end w.in-Ok-eq0.field-0-test (omega arith)))
]
