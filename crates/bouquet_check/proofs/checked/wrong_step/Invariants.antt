use Rattle.std.proofs.Common.{◌≡◌, map}
use Rattle.bouquet_type.specs.Trees.{contour_tree}
use Rattle.bouquet_check.specs.Verdicts.{wrong_step}
use Rattle.bouquet_check.proofs.Walks.{steps_from}
use Rattle.bouquet_check.proofs.checked.wrong_step.Given as goal

abbrev pub invariant-loop-place : goal.invariant-loop-place
invariant-loop-place l = steps_from l.place l.contours ≡ wrong_step 1 (map contour_tree l.contours)
