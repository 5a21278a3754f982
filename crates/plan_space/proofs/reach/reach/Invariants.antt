use Rattle.std.proofs.Common.{◌≡◌}
use Rattle.cost_model.specs.Costing.{costing_tree}
use Rattle.plan_space.specs.KnownCosts.{AreReached}
use Rattle.plan_space.proofs.reach.reach.Given as goal

abbrev pub invariant-loop-place : goal.invariant-loop-place
invariant-loop-place l = record {
  same : l.best ≡ l.fn.best;
  reached : AreReached (costing_tree l.fn.best) l.cost l.place l.costs;
}
