use Rattle.std.proofs.Common.{◌≡◌, map}
use Rattle.plan_tree.specs.Plans.{plan_tree}
use Rattle.cost_model.specs.Costing.{costing_tree}
use Rattle.bouquet_check.specs.Verdicts.{uncovered_point}
use Rattle.bouquet_check.proofs.Walks.{points_from}
use Rattle.bouquet_check.proofs.checked.uncovered_point.Given as goal

abbrev pub invariant-loop-place : goal.invariant-loop-place
invariant-loop-place l = record {
  same : l.plans ≡ record { costing = l.surface; plans = l.contour.plans.items; budget = l.budget };
  left : points_from (costing_tree l.surface) l.contour.cost l.budget (map plan_tree l.contour.plans.items) l.place
      ≡ uncovered_point (costing_tree l.surface) l.contour.cost l.budget (map plan_tree l.contour.plans.items);
}
