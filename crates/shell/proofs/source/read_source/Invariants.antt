use Rattle.std.proofs.Common.{◌≡◌, ◌≤◌, vec_len}
use Rattle.shell.specs.declared.source.TheConstants.{BLOCK_BYTES}
use Rattle.shell.proofs.Reading.{IsReading}
use Rattle.shell.proofs.Scripts.{enough}
use Rattle.shell.proofs.source.read_source.Given as goal

abbrev pub invariant-loop-turn : goal.invariant-loop-turn
invariant-loop-turn g l =
    IsReading enough l.turn l.bytes.items (g.S.Source.left l.fn.source) (g.S.Source.left l.source)
    × (vec_len l.block ≡ BLOCK_BYTES)
    × (g.S.Source.faults l.fn.source ≤ g.S.Source.faults l.source)
