use Rattle.std.proofs.Common.{◌≡◌, map, take}
use Rattle.std.specs.List.{flat_map}
use Rattle.plan_tree.specs.Plans.{plan_tree}
use Rattle.plan_tree.specs.AllPlans.{plans_at, trees_of}
use Rattle.plan_tree.proofs.enumerate.plans_over.Given as goal

abbrev pub invariant-loop-root : goal.invariant-loop-root
invariant-loop-root l =
    map plan_tree l.plans.items
    ≡ flat_map (trees_of (plans_at (map (λ list. map plan_tree list.items) l.lists)) l.set) (take l.root-index l.root-items)
