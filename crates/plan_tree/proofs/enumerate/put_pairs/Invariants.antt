use Rattle.std.proofs.Common.{◌≡◌, ◌++◌, map, take}
use Rattle.plan_tree.specs.Plans.{plan_tree}
use Rattle.plan_tree.specs.AllPlans.{pairs_by}
use Rattle.plan_tree.specs.Listing.{joined_by}
use Rattle.plan_tree.proofs.enumerate.put_pairs.Given as goal

abbrev pub invariant-loop-left : goal.invariant-loop-left
invariant-loop-left l =
    map plan_tree l.into.items
    ≡ map plan_tree l.fn.into.items
    ++ pairs_by (joined_by l.root) (map plan_tree (take l.left-index l.lefts)) (map plan_tree l.rights)
