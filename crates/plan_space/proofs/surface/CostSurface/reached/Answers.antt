use Rattle.std.proofs.Common.{◌∙◌}
use Rattle.cost_model.specs.Costing.{costing_tree}
use Rattle.plan_space.proofs.Reaching.{known-all}
use Rattle.plan_space.proofs.surface.CostSurface.reached.Goals as goal

pub new-requires-clause-costs : goal.new-requires-clause-costs
new-requires-clause-costs c =
    known-all (costing_tree c.self.inside.costing.now) c.deref.result.now (c.deref.ensures.value ∙ c.self.invariant.1) c.args.cost
