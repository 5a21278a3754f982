use Rattle.std.proofs.Common.{arith}
use Rattle.plan_tree.specs.Plans.{plan_tree}
use Rattle.cost_model.specs.Costing.{costing_tree}
use Rattle.cost_model.proofs.Least.{optimal-least}
use Rattle.learned_run.proofs.probes.covers_at.Goals as goal

pub is_covered-requires-clause-optimal : goal.is_covered-requires-clause-optimal
is_covered-requires-clause-optimal c =
    let least = optimal-least (costing_tree c.args.test.now.costing.now) (plan_tree c.args.p.now) c.args.point.now c.requires.plan in
    omega (arith, least, c.optimal_at-optimal.ensures, c.cost-cost.ensures.cost, c.cost-cost.ensures.bound)
