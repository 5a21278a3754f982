use Rattle.std.proofs.Common.{◌≡◌, ◌++◌, map, take}
use Rattle.plan_tree.specs.Plans.{plan_tree}
use Rattle.workspace.specs.Printed.{plan_texts}
use Rattle.workspace.proofs.lines.push_plans.Given as goal

abbrev pub invariant-loop-place : goal.invariant-loop-place
invariant-loop-place l = l.text.items ≡ l.initial.text.items ++ plan_texts (map plan_tree (take l.place l.plans))
