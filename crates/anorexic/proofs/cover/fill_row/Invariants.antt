use Rattle.std.proofs.Common.{◌≡◌, ℕ, ◌+◌, ◌*◌, ◌<◌, length, get_or}
use Rattle.std.specs.Prelude.{false, nat_le}
use Rattle.cost_model.specs.Costing.{costing_tree}
use Rattle.cost_model.specs.Costs.{cost_of}
use Rattle.plan_space.specs.Parts.{nth_plan}
use Rattle.anorexic.proofs.cover.fill_row.Given as goal

abbrev pub invariant-loop-place : goal.invariant-loop-place
invariant-loop-place l =
    ((k : ℕ) → k < l.place → get_or l.row k false
    ≡ nat_le (100 * cost_of (costing_tree l.plans.costing) (nth_plan l.plans.plans k) l.at.point) ((100 + l.threshold) * l.at.cost))
    × (length l.row ≡ length l.initial.row)
