use Rattle.std.proofs.Common.{ℕ, ◌<◌, ◌≤◌}
use Rattle.plan_tree.specs.Plans.{plan_tree}
use Rattle.cost_model.specs.Costing.{costing_tree}
use Rattle.cost_model.specs.Costs.{cost_of}
use Rattle.learned_run.specs.Raising.{corner_of}
use Rattle.learned_run.proofs.raise.level_past.Given as goal

abbrev pub invariant-loop-level : goal.invariant-loop-level
invariant-loop-level l = record {
  risen : l.before ≤ l.level;
  within : (lower : ℕ) → l.before ≤ lower → lower < l.level → cost_of (costing_tree l.costing) (plan_tree l.p) (corner_of l.costing.grid l.axis lower) ≤ l.budget;
}
