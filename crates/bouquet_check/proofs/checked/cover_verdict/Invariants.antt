use Rattle.std.proofs.Common.{◌≡◌, map}
use Rattle.cost_model.specs.Costing.{costing_tree}
use Rattle.bouquet_type.specs.Trees.{contour_tree}
use Rattle.bouquet_check.specs.Verdicts.{cover_verdict}
use Rattle.bouquet_check.proofs.Walks.{covers_from}
use Rattle.bouquet_check.proofs.checked.cover_verdict.Given as goal

abbrev pub invariant-loop-place : goal.invariant-loop-place
invariant-loop-place l =
    covers_from (costing_tree l.surface) l.b.threshold l.place l.b.contours
    ≡ cover_verdict (costing_tree l.surface) l.b.threshold 1 (map contour_tree l.b.contours)
