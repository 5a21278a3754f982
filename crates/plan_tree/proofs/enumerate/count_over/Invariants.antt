use Rattle.std.proofs.Common.{◌≡◌, List, map, take}
use Rattle.std.specs.List.{flat_map}
use Rattle.plan_tree.specs.Plans.{PlanTree}
use Rattle.plan_tree.specs.AllPlans.{plans_at, trees_of}
use Rattle.plan_tree.proofs.PlanCounts.{plan_count}
use Rattle.plan_tree.proofs.enumerate.count_over.Given as goal

abbrev pub invariant-loop-root : goal.invariant-loop-root
invariant-loop-root l =
    (lists : List (List PlanTree)) → l.counts ≡ map plan_count lists
    → l.count ≡ plan_count (flat_map (trees_of (plans_at lists) l.set) (take l.root-index l.roots))
