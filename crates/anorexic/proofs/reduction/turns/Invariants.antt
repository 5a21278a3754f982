use Rattle.std.proofs.Common.{◌≡◌, ◌-◌, ◌<◌, All, length}
use Rattle.anorexic.specs.Turns.{AreCoverCounts}
use Rattle.anorexic.proofs.Steps.{TakesRest}
use Rattle.anorexic.proofs.reduction.turns.Given as goal

abbrev pub invariant-loop-turn : goal.invariant-loop-turn
invariant-loop-turn l =
    All (λ number. number < length l.candidates) l.taken.items
    × All (λ place. place < l.points) l.uncovered.items
    × (length l.counts.items ≡ length l.candidates)
    × AreCoverCounts l.table l.uncovered.items l.counts.items
    × TakesRest l.points l.candidates l.table l.taken.items l.uncovered.items (l.points - l._turn)
