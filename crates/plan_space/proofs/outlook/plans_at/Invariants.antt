use Rattle.cost_model.specs.Costing.{costing_tree}
use Rattle.plan_space.specs.SurfacePoints.{surface_points}
use Rattle.plan_space.specs.FrontierPlans.{HoldsBest}
use Rattle.plan_space.proofs.outlook.plans_at.Given as goal

abbrev pub invariant-loop-number : goal.invariant-loop-number
invariant-loop-number l = HoldsBest (costing_tree l.best) (surface_points l.points) l.number l.plans.items
