use Rattle.std.proofs.Common.{◌≡◌, rules}
use Rattle.plan_tree.specs.declared.plan.Plan.{the_lemmas}
use Rattle.plan_tree.specs.declared.plan.Plan.TheVariants as plan
use Rattle.plan_tree.specs.Plans.{plan_tree, IndexScan}
use Rattle.plan_tree.proofs.rules.+is_sub_plan.Goals as goal

pub returns-in-IndexScan : goal.returns-in-IndexScan
returns-in-IndexScan t c =
    let relation = c.in-IndexScan.relation in
    let column = c.in-IndexScan.column in
    let seen : plan_tree (plan.IndexScan relation column) ≡ IndexScan relation column = search (rules, the_lemmas) in
    rw (c.in-IndexScan.is, seen) c.is_scannable.ensures
