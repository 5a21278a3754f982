use Rattle.std.proofs.Common.{◌<◌, ◌^◌, sym, subst}
use Rattle.query_block.specs.Blocks.{block_tree}
use Rattle.plan_tree.specs.Enumerated.{IsSubPlan}
use Rattle.cost_model.specs.Costing.{costing_tree}
use Rattle.cost_model.proofs.Bounds.{cost-below}
use Rattle.plan_space.specs.Parts.{nth_plan}
use Rattle.plan_space.specs.PartSums.{sum_at}
use Rattle.plan_space.proofs.PartCosts.{known-here, part-cost-is}
use Rattle.plan_space.proofs.parts.Parts.cost.Goals as goal

pub returns-clause-cost : goal.returns-clause-cost
returns-clause-cost c =
    let at = c.args.prices.now in
    let parts = c.args.self.now.plans in
    let number = c.args.number in
    let is = known-here c.args.self.now c.self.inside.block.now c.self.inside.nodes.items number c.self.view_is c.self.invariant.0 c.requires.number in
    let plan = subst (λ block. IsSubPlan (block_tree block) (nth_plan parts number)) (sym c.requires.block) is.plan in
    part-cost-is at parts c.args.nodes.now c.args.own_costs.now c.args.costs.now (sum_at c.args.sums.now number) number plan (c.requires.sums.each number c.requires.number)
    c.requires.own_costs c.requires.costs c.requires.before

pub returns-clause-bound : goal.returns-clause-bound
returns-clause-bound c =
    let at = c.args.prices.now in
    let parts = c.args.self.now.plans in
    let number = c.args.number in
    let is = known-here c.args.self.now c.self.inside.block.now c.self.inside.nodes.items number c.self.view_is c.self.invariant.0 c.requires.number in
    let plan = subst (λ block. IsSubPlan (block_tree block) (nth_plan parts number)) (sym c.requires.block) is.plan in
    let cost = part-cost-is at parts c.args.nodes.now c.args.own_costs.now c.args.costs.now (sum_at c.args.sums.now number) number plan (c.requires.sums.each number c.requires.number)
    c.requires.own_costs c.requires.costs c.requires.before in
    subst (λ n. n < 2 ^ 113) (sym cost) (cost-below (costing_tree at.costing) (nth_plan parts number) at.point c.block-block.ensures.costing plan)
