use Rattle.std.proofs.Common.{◌≡◌, length, take}
use Rattle.cost_model.specs.Costing.{costing_tree}
use Rattle.plan_space.specs.SurfacePoints.{surface_points}
use Rattle.anorexic.specs.Turns.{IsCoverTable}
use Rattle.anorexic.proofs.cover.cover_table.Given as goal

abbrev pub invariant-loop-at : goal.invariant-loop-at
invariant-loop-at l =
    IsCoverTable (costing_tree l.initial.plans.costing) l.threshold (surface_points (take l.at-index l.points)) l.initial.plans.plans l.table.items
    × (l.plans.costing ≡ l.initial.plans.costing) × (l.plans.plans ≡ l.initial.plans.plans) × (length l.row.items ≡ l.count)
