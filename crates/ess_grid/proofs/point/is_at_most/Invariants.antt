use Rattle.std.proofs.Common.{ℕ, ◌<◌, ◌≤◌, length, slice_index}
use Rattle.ess_grid.proofs.point.is_at_most.Given as goal

abbrev pub invariant-loop-level : goal.invariant-loop-level
invariant-loop-level l =
    (axis : ℕ) → axis < length l.yielded → slice_index l.levels axis ≤ slice_index l.others axis
