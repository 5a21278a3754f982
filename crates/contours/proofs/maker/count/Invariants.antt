use Rattle.std.proofs.Common.{◌≡◌, ◌-◌, ◌≤◌}
use Rattle.cost_model.specs.Costing.{costing_tree}
use Rattle.bouquet_type.specs.Budgets.{contour_cost}
use Rattle.bouquet_type.specs.Compiled.{contour_count}
use Rattle.contours.proofs.maker.count.Given as goal

abbrev pub invariant-loop-last : goal.invariant-loop-last
invariant-loop-last l = record {
  some : 1 ≤ l.count;
  within : l.count ≤ contour_count (costing_tree l.outlook);
  cost : l.last ≡ contour_cost (costing_tree l.outlook) l.count;
}

abbrev pub decreases-loop-last : goal.decreases-loop-last
decreases-loop-last l = contour_count (costing_tree l.outlook) - l.count
