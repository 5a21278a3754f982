use Rattle.std.proofs.Common.{◌≡◌, length, take}
use Rattle.anorexic.specs.Turns.{AreCoverCounts}
use Rattle.anorexic.proofs.turn.count_points.Given as goal

abbrev pub invariant-loop-place : goal.invariant-loop-place
invariant-loop-place l =
    AreCoverCounts l.table (take l.place-index l.uncovered) l.counts × (length l.counts ≡ length l.initial.counts)
