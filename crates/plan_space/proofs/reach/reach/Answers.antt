use Rattle.std.proofs.Common.{sym, subst}
use Rattle.cost_model.specs.Costing.{CostingShape, costing_tree}
use Rattle.plan_space.specs.KnownCosts.{AreReached}
use Rattle.plan_space.proofs.reach.reach.Goals as goal

pub reach_place-requires-clause-reached : goal.reach_place-requires-clause-reached
reach_place-requires-clause-reached c =
    subst (λ (costing : CostingShape). AreReached (costing_tree costing) c.args.cost c.loop-place.place c.loop-place.costs) (sym c.loop-place.invariant.same) c.loop-place.invariant.reached
