use Rattle.std.proofs.Common.{◌≡◌}
use Rattle.plan_space.proofs.Successors.{IsAtAxis}
use Rattle.plan_space.proofs.reach.is_beyond.Given as goal

abbrev pub invariant-loop-axis : goal.invariant-loop-axis
invariant-loop-axis l = record {
  axes : l._axis-end ≡ l.grid.axes;
  at : IsAtAxis l.grid l.place l.levels l._axis l.rest l.stride;
}
