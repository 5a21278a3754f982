use Rattle.std.proofs.Common.{◌≡◌, map, take}
use Rattle.plan_tree.specs.Plans.{plan_tree}
use Rattle.anorexic.proofs.Frontier.{without_plan}
use Rattle.anorexic.proofs.reduction.taken_apart.Given as goal

abbrev pub invariant-loop-at : goal.invariant-loop-at
invariant-loop-at l =
    (l.points.items ≡ map without_plan (take l.at-index l.frontier)) × (map plan_tree l.plans.items ≡ map (λ at. plan_tree at.plan) (take l.at-index l.frontier))
