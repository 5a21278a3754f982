use Rattle.std.proofs.Common.{◌≡◌, ◌∙◌, drop, length, ap, arith}
use Rattle.cost_model.specs.Costing.{CostingShape, costing_tree}
use Rattle.plan_space.specs.Surface.{optimal_costs}
use Rattle.plan_space.proofs.Reaching.{all-reached, handed-back}
use Rattle.plan_space.proofs.outlook.Outlook.costs.Goals as goal

pub returns-clause-costs : goal.returns-clause-costs
returns-clause-costs c =
    let outlook = c.self.inside in
    let costing = costing_tree outlook.best in
    let costs = c.reach.new.costs in
    let reached = c.in_ok-reach.ensures.reached in
    let long : outlook.costs.len ≡ length costs = omega (arith, outlook.costs.ok.0, c.self.invariant.known.long, reached.known.long) in
    c.in_ok-costs.ensures.items
    ∙ c.as_slice.ensures.value
    ∙ handed-back costs (drop (length costs) outlook.costs.items) outlook.costs.len long
    ∙ all-reached costing costs c.self.invariant.costing reached
    ∙ ap (λ (one : CostingShape). optimal_costs (costing_tree one)) c.self.view_is
