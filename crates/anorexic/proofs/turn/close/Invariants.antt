use Rattle.std.proofs.Common.{◌≡◌, length, not}
use Rattle.std.proofs.lemmas.List.Filters.{FiltersInPlace}
use Rattle.anorexic.specs.Turns.{is_marked, AreCoverCounts}
use Rattle.anorexic.proofs.Steps.{kept_of}
use Rattle.anorexic.proofs.turn.close.Given as goal

abbrev pub invariant-loop-i : goal.invariant-loop-i
invariant-loop-i l =
    FiltersInPlace (λ place. not (is_marked l.table l.width l.candidate place)) l.initial.uncovered.items l.uncovered.items l.kept l.i
    × AreCoverCounts l.table (kept_of (λ place. not (is_marked l.table l.width l.candidate place)) l.initial.uncovered.items l.i) l.counts
    × (length l.counts ≡ l.width)
