use Rattle.std.proofs.lemmas.List.Elements.{All-weaker}
use Rattle.query_block.specs.Blocks.{block_tree}
use Rattle.plan_tree.specs.Plans.{plan_tree, FitsSet}
use Rattle.plan_tree.specs.Enumerated.{IsPlan}
use Rattle.cost_model.proofs.Sets.{fits-set}
use Rattle.plan_space.proofs.costed_plans.CostedPlans.of_plans.Goals as goal

pub numbers_of-requires-clause-fit : goal.numbers_of-requires-clause-fit
numbers_of-requires-clause-fit c =
    let block = block_tree c.args.costing.now.block in
    All-weaker (λ p. IsPlan block (plan_tree p)) (λ p. FitsSet (plan_tree p)) (λ p is. fits-set block (plan_tree p) c.block-block.ensures.costing.block.few is.nodes) c.args.plans.now c.requires
