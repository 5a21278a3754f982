use Rattle.std.proofs.Common.{ℕ, ◌<◌, ◌≡◌, length}
use Rattle.std.specs.Prelude.{slice_index}
use Rattle.plan_tree.specs.Plans.{plan_tree}
use Rattle.cost_model.specs.Costing.{costing_tree}
use Rattle.learned_run.specs.Raising.{IsLevelPast}
use Rattle.learned_run.proofs.raise.raised.Given as goal

abbrev pub invariant-loop-axis : goal.invariant-loop-axis
invariant-loop-axis l = record {
  long : length l.levels ≡ 6;
  levels : (axis : ℕ) → axis < l.axis → IsLevelPast (costing_tree l.costing) (plan_tree l.p) l.budget axis (slice_index l.point axis) (slice_index l.levels axis);
  within : (axis : ℕ) → axis < l.axis → slice_index l.levels axis < l.costing.grid.levels;
}
