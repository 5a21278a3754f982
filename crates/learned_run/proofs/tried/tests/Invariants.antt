use Rattle.std.proofs.Common.{◌≡◌, ◌+◌, ◌*◌, map, take}
use Rattle.std.specs.Prelude.{nat_le}
use Rattle.cost_model.specs.Costing.{costing_tree}
use Rattle.cost_model.specs.Costs.{cost_of}
use Rattle.learned_run.proofs.tried.tests.Given as goal

abbrev pub invariant-loop-place : goal.invariant-loop-place
invariant-loop-place l =
    l.tests.items ≡ map (λ p. nat_le (100 * cost_of (costing_tree l.plans.costing) p l.row.point) ((100 + l.threshold) * l.row.cost)) (take l.place l.plans.plans)
