use Rattle.std.proofs.Common.{◌≤◌, ◌<◌, ◌∙◌, ◌++◌, ◌∷◌, [], All, cond, get_or, map, take, length, append-nil, ap, arith, subst, sym}
use Rattle.std.specs.List.{filter}
use Rattle.std.proofs.lemmas.List.{take_all}
use Rattle.std.proofs.lemmas.Option.{slice_get-get_or}
use Rattle.std.proofs.lemmas.List.Elements.{All-push}
use Rattle.ess_grid.specs.Points.{points_of}
use Rattle.cost_model.specs.Costing.{costing_tree}
use Rattle.cost_model.specs.Frontier.{is_on_frontier, frontier}
use Rattle.plan_space.specs.SurfacePoints.{IsSurfacePoint}
use Rattle.plan_space.specs.declared.surface.SurfacePoint.{SurfacePoint}
use Rattle.plan_space.proofs.ByPlaces.{point-there}
use Rattle.plan_space.proofs.FrontierPoints.{filtered-next, on-within, point-more}
use Rattle.plan_space.proofs.reached.Reached.frontier.Goals as goal
use Rattle.plan_space.proofs.reached.Reached.frontier.Goals.{then-is_on_frontier+in_ok-push, else-is_on_frontier}

pub returns-clause-points : goal.returns-clause-points
unfolding frontier
returns-clause-points c =
    let points = points_of c.args.self.now.costing.grid in
    let all : length points ≤ c.loop-place.place = omega (arith, c.loop-place-test.false, c.points-place-end.ensures.count) in
    c.loop-place.invariant.points ∙ ap (filter (is_on_frontier (costing_tree c.args.self.now.costing) c.args.self.now.cost)) (take_all c.loop-place.place points all)

pub surface_point-requires-clause-within : goal.surface_point-requires-clause-within
surface_point-requires-clause-within c = λ point there. on-within _ _ (sym (c.is_on_frontier.ensures point there) ∙ c.if-is_on_frontier.true)

pub loop-place-preserved : goal.loop-place-preserved
loop-place-preserved c =
    let costing = costing_tree c.args.self.now.costing in
    let points = points_of c.args.self.now.costing.grid in
    let place = c.loop-place.place in
    let point = get_or points place [] in
    let test = is_on_frontier costing c.args.self.now.cost in
    let found = c.loop-place.found.items in
    let below : place < length points = omega (arith, c.loop-place-test.true, c.points-place-end.ensures.count) in
    let next = filtered-next test points place below in
    let is_on = c.is_on_frontier.ensures point (slice_get-get_or points place [] below) in
    elim c.if-is_on_frontier.branch [
      | then-is_on_frontier+in_ok-push w ↦
          let at = w.surface_point.result in
          let items = w.in_ok-push.ensures.items in
          let more = point-more found at (test point) point (point-there points place at.point w.surface_point.ensures.point) (sym is_on ∙ w.if-is_on_frontier.true) in
          rw w.found-is (record {
            points = ap (map (λ (one : SurfacePoint). one.point)) items ∙ more ∙ ap (λ before. before ++ cond (test point) (point ∷ []) []) c.loop-place.invariant.points ∙ sym next;
            each = subst (All (IsSurfacePoint costing)) (sym items) (All-push (IsSurfacePoint costing) found at c.loop-place.invariant.each w.surface_point.ensures.cost);
          })
      | else-is_on_frontier w ↦
          let off = ap (λ on. filter test (take place points) ++ cond on (point ∷ []) []) (sym is_on ∙ w.if-is_on_frontier.false) in
          rw w.found-is (record {
            points = c.loop-place.invariant.points ∙ sym (next ∙ off ∙ append-nil (filter test (take place points)));
            each = c.loop-place.invariant.each;
          })
    ]
