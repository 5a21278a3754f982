use Rattle.std.proofs.Common.{◌≡◌, ℕ, ◌<◌, count_by, length}
use Rattle.std.specs.Prelude.{false}
use Rattle.std.specs.Ordering.{is_gt}
use Rattle.anorexic.specs.Turns.{is_marked, turn_order}
use Rattle.anorexic.proofs.turn.first_candidate.Given as goal

abbrev pub invariant-loop-candidate : goal.invariant-loop-candidate
invariant-loop-candidate l =
    (l.first < l.candidate)
    × (l.most ≡ count_by (is_marked l.table (length l.candidates) l.first) l.uncovered)
    × ((other : ℕ) → other < l.candidate → is_gt (turn_order l.candidates l.table l.uncovered l.first other) ≡ false)
