use Rattle.std.proofs.Common.{◌≡◌, ℕ, ◌+◌, ◌<◌, ◌≤◌, false, length, get_or}
use Rattle.std.specs.Prelude.{if◌then◌else◌}
use Rattle.anorexic.proofs.turn.subtract_point.Given as goal

abbrev pub invariant-loop-candidate : goal.invariant-loop-candidate
invariant-loop-candidate l =
    ((other : ℕ) → other < l.candidate → get_or l.initial.counts other 0 ≡ get_or l.counts other 0 + (if get_or l.row other false then 1 else 0))
    × ((other : ℕ) → l.candidate ≤ other → get_or l.counts other 0 ≡ get_or l.initial.counts other 0)
    × (length l.counts ≡ length l.initial.counts)
