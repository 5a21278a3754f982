use Rattle.std.proofs.Common.{◌-◌, ◌^◌, length, ap, ◌∙◌, arith}
use Rattle.query_block.specs.Blocks.{block_tree}
use Rattle.plan_tree.specs.Plans.{plan_tree}
use Rattle.cost_model.specs.Costing.{costing_tree}
use Rattle.plan_space.proofs.Filled.{is-best}
use Rattle.plan_space.proofs.HeldPlans.{has-best}
use Rattle.plan_space.proofs.outlook.has_plan.Goals as goal

pub returns-then-tells : goal.returns-then-tells
returns-then-tells c =
    let p = c.index-plans-number.result in
    let all = c.set_of_all-all.ensures.all ∙ ap (λ block. 2 ^ length (block_tree block).relations - 1) c.block-block.ensures.block in
    λ yes point least.
    let best = (is-best (record { costing = c.args.costing.now; point = point }) c.args.row.now (plan_tree p) c.set_of_all-all.result c.block-block.ensures.costing least all
    (c.tells.ensures c.if-tells.true).follows).0 in
    has-best (costing_tree c.args.costing.now) c.args.plans.now (length c.args.plans.now - 1 - c.loop-later.later) p point (omega (arith, c.loop-later-test.true))
    c.index-plans-number.is best
