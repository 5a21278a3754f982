use Rattle.std.proofs.Common.{◌≡◌, ◌++◌, map, take}
use Rattle.plan_tree.specs.Plans.{plan_tree}
use Rattle.plan_tree.specs.Listing.{joined_by}
use Rattle.plan_tree.proofs.enumerate.put_with.Given as goal

abbrev pub invariant-loop-right : goal.invariant-loop-right
invariant-loop-right l =
    map plan_tree l.into.items
    ≡ map plan_tree l.fn.into.items ++ map (joined_by l.root (plan_tree l.left)) (map plan_tree (take l.right-index l.rights))
