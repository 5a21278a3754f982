use Rattle.std.proofs.Common.{◌≡◌, ◌∙◌, ◌+◌, [], List, Some, ap, sym, subst, arith}
use Rattle.std.specs.Prelude.{slice_index_or}
use Rattle.std.proofs.lemmas.List.{get_or-map, length-map}
use Rattle.ess_grid.specs.Points.{GridShape, point_at}
use Rattle.plan_tree.specs.declared.plan.Plan.{Plan}
use Rattle.plan_tree.specs.Plans.{plan_tree}
use Rattle.cost_model.specs.Best.{IsBest}
use Rattle.cost_model.specs.Costing.{CostingShape, costing_tree}
use Rattle.plan_space.specs.Alike.{LeastAt}
use Rattle.plan_space.specs.declared.surface.SurfacePoint.{SurfacePoint}
use Rattle.plan_space.specs.SurfacePoints.{surface_points}
use Rattle.plan_space.specs.FrontierPlans.{HasBest, HoldsBest, nth_point}
use Rattle.plan_space.proofs.HeldPlans.{holds-known, holds-more}
use Rattle.plan_space.proofs.outlook.add_plan.Goals as goal

pub returns-then-has_plan : goal.returns-then-has_plan
returns-then-has_plan c =
    let best = c.args.best.now in
    let costing = costing_tree best in
    let points = c.args.points.now in
    let plans = c.args.plans.now.items in
    let at = slice_index_or points c.args.number c.index-points-number.result in
    let place = c.place_of.result in
    let row = c.row-row.result in
    let same = c.costing-costing.ensures in
    let grid = c.grid.ensures ∙ ap (λ (one : CostingShape). one.grid) same in
    let there = subst (λ (g : GridShape). point_at g place ≡ Some at.point) grid c.place_of.ensures.place in
    let least = subst (λ (one : CostingShape). LeastAt one row at.point) (sym same) (c.row-row.ensures.least at.point there) in
    let has = subst (λ (one : CostingShape). HasBest (costing_tree one) c.as_slice.result.now at.point) same (c.has_plan.ensures c.if-has_plan.true at.point least) in
    let here = subst (λ (all : List Plan). HasBest costing all at.point) c.as_slice.ensures.value has in
    let point : nth_point (surface_points points) c.args.number ≡ at.point =
    get_or-map (λ (one : SurfacePoint). one.point) points c.args.number c.index-points-number.result [] c.requires.number in
    holds-known costing (surface_points points) c.args.number plans (subst (HasBest costing plans) (sym point) here) c.requires.known

pub returns : goal.returns
returns c =
    let best = c.args.best.now in
    let costing = costing_tree best in
    let points = c.args.points.now in
    let number = c.args.number in
    let plans = c.args.plans.now.items in
    let at = slice_index_or points number c.index-points-number.result in
    let place = c.place_of.result in
    let row = c.row-row.result in
    let p = c.in_ok-plan_of.field-0 in
    let same = c.costing-costing.ensures in
    let grid = c.grid.ensures ∙ ap (λ (one : CostingShape). one.grid) same in
    let there = subst (λ (g : GridShape). point_at g place ≡ Some at.point) grid c.place_of.ensures.place in
    let least = subst (λ (one : CostingShape). LeastAt one row at.point) (sym same) (c.row-row.ensures.least at.point there) in
    let is_best = subst (λ (one : CostingShape). IsBest (costing_tree one) at.point (plan_tree p)) same (c.in_ok-plan_of.ensures at.point least) in
    let point : nth_point (surface_points points) number ≡ at.point =
    get_or-map (λ (one : SurfacePoint). one.point) points number c.index-points-number.result [] c.requires.number in
    subst (λ (all : List Plan). HoldsBest costing (surface_points points) (number + 1) all) (sym {A = List Plan} c.in_ok-push.ensures.items)
    (holds-more costing (surface_points points) number plans p (omega (arith, c.requires.number, length-map points (λ (one : SurfacePoint). one.point)))
    (subst (λ one. IsBest costing one (plan_tree p)) (sym point) is_best) c.requires.known)
