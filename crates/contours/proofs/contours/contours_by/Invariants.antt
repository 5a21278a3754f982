use Rattle.std.proofs.Common.{length}
use Rattle.cost_model.specs.Costing.{costing_tree}
use Rattle.contours.specs.Lazy.{ahead_of}
use Rattle.contours.proofs.Collected.{AreCollected}
use Rattle.contours.proofs.Outlined.{AreOutlined}
use Rattle.contours.proofs.contours.contours_by.Given as goal

abbrev pub invariant-loop-frontiers : goal.invariant-loop-frontiers
invariant-loop-frontiers l = record {
  collected : AreCollected (costing_tree l.fn.outlook) l.threshold l.contours.items l.maker;
  outlined : AreOutlined (costing_tree l.fn.outlook) l.frontiers.items l.contours.items;
}

abbrev pub decreases-loop-frontiers : goal.decreases-loop-frontiers
decreases-loop-frontiers l = length (ahead_of l.maker)
