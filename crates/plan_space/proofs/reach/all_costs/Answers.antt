use Rattle.std.proofs.Common.{◌≡◌, ◌∙◌, drop, length, subst, arith}
use Rattle.cost_model.specs.Costing.{CostingShape, costing_tree}
use Rattle.sql_values.specs.Limits.{max_contour_cost}
use Rattle.plan_space.specs.KnownCosts.{AreAllReached}
use Rattle.plan_space.proofs.Reaching.{all-reached, handed-back}
use Rattle.plan_space.proofs.reach.all_costs.Goals as goal

pub returns : goal.returns
returns c =
    let costing = c.args.costing.now in
    let costs = c.reach.new.costs in
    let reached = subst (λ (one : CostingShape). AreAllReached (costing_tree one) max_contour_cost costs) c.in_ok-best.ensures c.in_ok-reach.ensures.reached in
    let long : c.in_ok-costs.costs.len ≡ length costs = omega (arith, c.in_ok-costs.costs.ok.0, c.in_ok-costs.ensures.long, reached.known.long) in
    handed-back costs (drop (length costs) c.in_ok-costs.costs.items) c.in_ok-costs.costs.len long ∙ all-reached (costing_tree costing) costs c.block-block.ensures.costing reached
