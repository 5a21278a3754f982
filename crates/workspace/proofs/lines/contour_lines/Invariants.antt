use Rattle.std.proofs.Common.{◌≡◌, map, take}
use Rattle.bouquet_type.specs.Trees.{contour_tree}
use Rattle.workspace.specs.Printed.{contour_lines}
use Rattle.workspace.proofs.lines.contour_lines.Given as goal

abbrev pub invariant-loop-place : goal.invariant-loop-place
invariant-loop-place l = l.text.items ≡ contour_lines l.bouquet.threshold 1 (map contour_tree (take l.place l.bouquet.contours))
