use Rattle.std.proofs.Common.{◌-◌, ◌^◌, length, ap, ◌∙◌}
use Rattle.query_block.specs.Blocks.{block_tree}
use Rattle.plan_tree.specs.Plans.{plan_tree}
use Rattle.plan_space.proofs.Filled.{is-best}
use Rattle.plan_space.proofs.outlook.plan_of.Goals as goal

pub returns : goal.returns
returns c =
    let all = c.set_of_all.ensures.all ∙ ap (λ block. 2 ^ length (block_tree block).relations - 1) c.block-block.ensures.block in
    λ point least. (is-best (record { costing = c.args.costing.now; point = point }) c.args.row.now (plan_tree c.in_ok-p.p) c.set_of_all.result c.block-block.ensures.costing least all
    c.in_ok-p.ensures.follows).0
