use Rattle.std.proofs.Common.{◌-◌, ◌∙◌, ap, arith}
use Rattle.plan_tree.proofs.Bits.{lowest-alone}
use Rattle.plan_tree.specs.declared.roots.Root.TheVariants as root
use Rattle.plan_space.specs.Table.{side_costs}
use Rattle.plan_space.specs.Search.{SearchShape}
use Rattle.plan_space.proofs.Considered.{both-least}
use Rattle.plan_space.proofs.steps.Search.least_sides.Goals as goal

pub returns-else-right : goal.returns-else-right
returns-else-right c =
    let right = c.number-right.ensures ∙ c.without.ensures ∙ ap (λ (one : SearchShape). one.set - c.args.left) c.self.view_is in
    both-least c.args.self.now c.args.left c.side_costs.result (c.side_costs.ensures.costs ∙ ap (λ side. side_costs c.args.self.now.table (root.Nest side) c.args.self.now.set) c.number.ensures)
    (λ relation is. c.if-right.false (lowest-alone _ relation (right ∙ is) (omega (arith, right))))
