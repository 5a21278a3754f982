use Rattle.std.proofs.Common.{ℕ, ◌<◌}
use Rattle.std.specs.Prelude.{slice_index}
use Rattle.cost_model.specs.Costing.{costing_tree}
use Rattle.cost_model.specs.Optimal.{optimal_cost}
use Rattle.learned_run.specs.Raising.{corner_of}
use Rattle.learned_run.proofs.raise.are_past.Given as goal

abbrev pub invariant-loop-axis : goal.invariant-loop-axis
invariant-loop-axis l = record {
  past : (axis : ℕ) → axis < l.axis → l.budget < optimal_cost (costing_tree l.costing) (corner_of l.costing.grid axis (slice_index l.point axis));
}
