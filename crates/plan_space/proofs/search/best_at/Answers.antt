use Rattle.std.proofs.Common.{◌-◌, ◌^◌, length, ap, ◌∙◌}
use Rattle.query_block.specs.Blocks.{block_tree}
use Rattle.plan_tree.specs.Plans.{plan_tree}
use Rattle.plan_space.specs.Table.{entry_at}
use Rattle.plan_space.proofs.Filled.{is-best}
use Rattle.plan_space.proofs.search.best_at.Goals as goal

pub returns-clause-best : goal.returns-clause-best
returns-clause-best c =
    let all = c.set_of_all-all.ensures.all ∙ ap (λ block. 2 ^ length (block_tree block).relations - 1) c.block-block.ensures.block in
    (is-best c.args.prices.now c.fill-2.new.table (plan_tree c.in_ok-p.p) c.set_of_all-all.result c.block-block.ensures.costing c.fill-2.ensures all c.in_ok-p.ensures.follows).0

pub returns-clause-cost : goal.returns-clause-cost
returns-clause-cost c =
    let all = c.set_of_all-all.ensures.all ∙ ap (λ block. 2 ^ length (block_tree block).relations - 1) c.block-block.ensures.block in
    ap (λ set. (entry_at c.fill-2.new.table set).cost) c.number.ensures
    ∙ (is-best c.args.prices.now c.fill-2.new.table (plan_tree c.in_ok-p.p) c.set_of_all-all.result c.block-block.ensures.costing c.fill-2.ensures all c.in_ok-p.ensures.follows).1
