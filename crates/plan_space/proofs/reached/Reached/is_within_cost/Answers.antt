use Rattle.std.proofs.Common.{◌≡◌, ◌∙◌, ◌<◌, Some, ap, subst, sym, length}
use Rattle.std.proofs.lemmas.Option.{slice_get_within}
use Rattle.ess_grid.specs.Points.{points_of, point_at}
use Rattle.cost_model.specs.Costing.{costing_tree}
use Rattle.cost_model.specs.Frontier.{is_within_cost}
use Rattle.plan_space.specs.KnownCosts.{ReachedShape}
use Rattle.plan_space.proofs.Reaching.{within-reached}
use Rattle.plan_space.proofs.reached.Reached.is_within_cost.Goals as goal

pub returns : goal.returns
returns c =
    let reached = c.self.inside in
    let shape = reached.costing.now in
    let costs = reached.costs.now in
    let is = c.self.invariant in
    λ point at.
    let there : point_at shape.grid c.args.place ≡ Some point = subst (λ (one : ReachedShape). point_at one.costing.grid c.args.place ≡ Some point) (sym c.self.view_is) at in
    let below : c.args.place < length (points_of shape.grid) = slice_get_within (points_of shape.grid) c.args.place point there in
    within-reached (costing_tree shape) costs reached.cost c.args.place is.cost is.all below point there
    ∙ ap (λ (one : ReachedShape). is_within_cost (costing_tree one.costing) one.cost point) c.self.view_is
