use Rattle.std.proofs.Common.{◌≡◌, map, take}
use Rattle.cost_model.specs.Costing.{costing_tree}
use Rattle.learned_run.specs.Covering.{bare_row}
use Rattle.learned_run.proofs.rows.kept_rows.Given as goal

abbrev pub invariant-loop-point : goal.invariant-loop-point
invariant-loop-point l = l.rows.items ≡ map (bare_row (costing_tree l.costing)) (take l.point-index l.points)
