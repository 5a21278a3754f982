use Rattle.std.proofs.Common.{◌≡◌, ◌∙◌, ◌+◌, ◌<◌, [], cond, get_or, length, map, ap, ap₂, sym, arith}
use Rattle.std.proofs.lemmas.Grind.{common_steps}
use Rattle.std.specs.Prelude.{true, false, not, ◌&&◌, Some}
use Rattle.std.proofs.lemmas.Option.{slice_get-get_or}
use Rattle.ess_grid.specs.Points.{GridShape, points_of, point_at}
use Rattle.plan_tree.specs.Plans.{plan_tree}
use Rattle.cost_model.specs.Costing.{CostingShape, costing_tree}
use Rattle.cost_model.specs.Frontier.{is_on_frontier}
use Rattle.bouquet_check.specs.Verdicts.{fits_at}
use Rattle.bouquet_check.specs.Budgeted.{BudgetedShape}
use Rattle.bouquet_check.proofs.Walks.{points_from, points-first, points-next, points-end}
use Rattle.bouquet_check.proofs.checked.uncovered_point.Goals as goal
use Rattle.bouquet_check.proofs.checked.uncovered_point.Goals.{then-is_on_frontier+in_ok-fits+else-not-branch, else-is_on_frontier}

pub loop-place-init : goal.loop-place-init
loop-place-init c = record {
  same = cc (c.new-plans.ensures, c.costing-costing.ensures.same, c.deref.ensures.value);
  left = points-first (costing_tree c.args.surface.now) c.args.contour.now.cost c.args.budget (map plan_tree c.args.contour.now.plans.items);
}

pub returns-then-not-branch : goal.returns-then-not-branch
returns-then-not-branch c =
    let costing = costing_tree c.args.surface.now in
    let cost = c.args.contour.now.cost in
    let budget = c.args.budget in
    let plans = map plan_tree c.args.contour.now.plans.items in
    let place = c.loop-place.place in
    let q = c.point-q.result in
    let grid : c.grid-grid.result.now ≡ costing.grid = c.grid-grid.ensures ∙ ap (λ (one : CostingShape). one.grid) c.costing-costing.ensures.same in
    let there : point_at costing.grid place ≡ Some q = ap (λ (one : GridShape). point_at one place) (sym grid) ∙ c.point-q.ensures.point in
    let on : is_on_frontier costing cost q ≡ true = sym (c.is_on_frontier.ensures q there) ∙ c.if-is_on_frontier.true in
    let none : fits_at costing budget plans q ≡ false =
    sym (c.in_ok-fits.ensures.fits ∙ ap (λ (one : BudgetedShape). fits_at (costing_tree one.costing) one.budget (map plan_tree one.plans) q) c.loop-place.invariant.same)
    ∙ c.if-not-branch.true in
    sym (
    points-next costing cost budget plans place q there
    ∙ ap₂ (λ is fits. cond (is && not fits) (Some q) (points_from costing cost budget plans (place + 1))) on none
    )
    ∙ c.loop-place.invariant.left

pub loop-place-preserved : goal.loop-place-preserved
loop-place-preserved c =
    let costing = costing_tree c.args.surface.now in
    let cost = c.args.contour.now.cost in
    let budget = c.args.budget in
    let plans = map plan_tree c.args.contour.now.plans.items in
    let place = c.loop-place.place in
    let grid : c.grid-grid.result.now ≡ costing.grid = c.grid-grid.ensures ∙ ap (λ (one : CostingShape). one.grid) c.costing-costing.ensures.same in
    elim c.if-is_on_frontier.branch [
      | then-is_on_frontier+in_ok-fits+else-not-branch w ↦
          let q = w.point-q.result in
          let there : point_at costing.grid place ≡ Some q = ap (λ (one : GridShape). point_at one place) (sym grid) ∙ w.point-q.ensures.point in
          let on : is_on_frontier costing cost q ≡ true = sym (c.is_on_frontier.ensures q there) ∙ w.if-is_on_frontier.true in
          let some : fits_at costing budget plans q ≡ true =
          sym (w.in_ok-fits.ensures.fits ∙ ap (λ (one : BudgetedShape). fits_at (costing_tree one.costing) one.budget (map plan_tree one.plans) q) c.loop-place.invariant.same)
          ∙ w.if-not-branch.false in
          record {
            same = w.plans-is ∙ w.in_ok-fits.ensures.same ∙ c.loop-place.invariant.same;
            left = sym (
                points-next costing cost budget plans place q there
                ∙ ap₂ (λ is fits. cond (is && not fits) (Some q) (points_from costing cost budget plans (place + 1))) on some
                )
                ∙ c.loop-place.invariant.left;
          }
      | else-is_on_frontier w ↦
          let points = points_of costing.grid in
          let q = get_or points place [] in
          let below : place < length points = omega (arith, c.loop-place-test.true, c.points-place-end.ensures.count, ap (λ (one : GridShape). length (points_of one)) grid) in
          let there : point_at costing.grid place ≡ Some q = slice_get-get_or points place [] below in
          let off : is_on_frontier costing cost q ≡ false = sym (c.is_on_frontier.ensures q there) ∙ w.if-is_on_frontier.false in
          record {
            same = w.plans-is ∙ c.loop-place.invariant.same;
            left = sym (
                points-next costing cost budget plans place q there
                ∙ ap (λ is. cond (is && not (fits_at costing budget plans q)) (Some q) (points_from costing cost budget plans (place + 1))) off
                )
                ∙ c.loop-place.invariant.left;
          }
    ]

pub returns : goal.returns
returns c = grind (arith, common_steps, points-end)
