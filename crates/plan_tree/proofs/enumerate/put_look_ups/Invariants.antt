use Rattle.std.proofs.Common.{◌≡◌, ◌++◌, map, take}
use Rattle.plan_tree.specs.Plans.{plan_tree, IndexLoop}
use Rattle.plan_tree.proofs.enumerate.put_look_ups.Given as goal

abbrev pub invariant-loop-left : goal.invariant-loop-left
invariant-loop-left l =
    map plan_tree l.into.items
    ≡ map plan_tree l.fn.into.items ++ map (λ left. IndexLoop l.edge left l.relation) (map plan_tree (take l.left-index l.lefts))
