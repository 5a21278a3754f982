use Rattle.std.proofs.Common.{◌≡◌, ◌+◌, ◌-◌, drop, map}
use Rattle.bouquet_type.specs.Schedule.{members_from, schedule}
use Rattle.bouquet_type.specs.Trees.{bouquet_tree, contour_tree}
use Rattle.session.proofs.turn_lines.executed_plan.Given as goal

abbrev pub invariant-loop-contour : goal.invariant-loop-contour
invariant-loop-contour l =
    drop (l.place - 1) (schedule (bouquet_tree l.b))
    ≡ drop l.before (members_from l.b.threshold (l.contour-index + 1) (map contour_tree (drop l.contour-index l.contours)))
