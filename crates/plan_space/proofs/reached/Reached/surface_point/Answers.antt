use Rattle.std.proofs.Common.{◌≡◌, ◌∙◌, ◌<◌, ◌≤◌, Some, ap, subst, sym, length, arith}
use Rattle.std.specs.Prelude.{IsTrue}
use Rattle.std.proofs.lemmas.Bool.Decides.{nat_tests}
use Rattle.std.proofs.lemmas.Option.{slice_get_within}
use Rattle.ess_grid.specs.Points.{GridShape, IsPoint, points_of, point_at}
use Rattle.cost_model.specs.Costing.{costing_tree}
use Rattle.cost_model.specs.Frontier.{is_within_cost}
use Rattle.cost_model.specs.Optimal.{optimal_cost}
use Rattle.plan_space.specs.KnownCosts.{ReachedShape}
use Rattle.plan_space.specs.Places.{HoldsAt}
use Rattle.plan_space.proofs.reached.Reached.surface_point.Goals as goal

pub returns-clause-cost : goal.returns-clause-cost
returns-clause-cost c =
    let reached = c.self.inside in
    let shape = reached.costing.now in
    let costs = reached.costs.now in
    let is = c.self.invariant in
    let point = c.point.result in
    let there : point_at shape.grid c.args.place ≡ Some point = ap (λ (g : GridShape). point_at g c.args.place) (sym c.grid.ensures) ∙ c.point.ensures.point in
    let below : c.args.place < length (points_of shape.grid) = slice_get_within (points_of shape.grid) c.args.place point there in
    let test = subst (λ (one : ReachedShape). HoldsAt one.costing.grid c.args.place (λ q. IsTrue (is_within_cost (costing_tree one.costing) one.cost q))) (sym c.self.view_is) c.requires.within in
    let yes : IsTrue (is_within_cost (costing_tree shape) reached.cost point) = test point there in
    let within : optimal_cost (costing_tree shape) point ≤ reached.cost = grind (arith, nat_tests, yes) in
    let cost = is.all.within c.args.place point below there within in
    record {
      point = subst (λ (g : GridShape). IsPoint g c.point.result) (c.grid.ensures ∙ ap (λ (one : ReachedShape). one.costing.grid) c.self.view_is) c.point.ensures.of_grid;
      cost = cost ∙ ap (λ (one : ReachedShape). optimal_cost (costing_tree one.costing) c.point.result) c.self.view_is;
    }
