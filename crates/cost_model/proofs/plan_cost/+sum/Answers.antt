use Rattle.std.proofs.Common.{rules, arith}
use Rattle.plan_tree.specs.declared.plan.Plan.{the_lemmas}
use Rattle.plan_tree.specs.Plans.{plan_tree}
use Rattle.cost_model.specs.Costing.{costing_tree}
use Rattle.cost_model.proofs.Sums.{sum-below}
use Rattle.cost_model.proofs.plan_cost.+sum.Goals as goal

pub returns-in-IndexLoop-clause-sum : goal.returns-in-IndexLoop-clause-sum
returns-in-IndexLoop-clause-sum t c = search (rules, the_lemmas)

pub returns-in-IndexLoop-clause-bound : goal.returns-in-IndexLoop-clause-bound
returns-in-IndexLoop-clause-bound t c =
    let at = c.args.prices.now in
    omega (arith, returns-in-IndexLoop-clause-sum t c, sum-below (costing_tree at.costing) at.point (plan_tree c.args.p.now) c.root_cost-own.ensures.costing c.requires)

pub returns-in-Nest-clause-sum : goal.returns-in-Nest-clause-sum
returns-in-Nest-clause-sum t c = search (rules, the_lemmas)

pub returns-in-Nest-clause-bound : goal.returns-in-Nest-clause-bound
returns-in-Nest-clause-bound t c =
    let at = c.args.prices.now in
    omega (arith, returns-in-Nest-clause-sum t c, sum-below (costing_tree at.costing) at.point (plan_tree c.args.p.now) c.root_cost-own.ensures.costing c.requires)
