use Rattle.std.proofs.Common.{◌≡◌, ◌-◌, false, get_or, cond, refl, ap, sym, subst, ◌∙◌, arith}
use Rattle.std.specs.Prelude.{slice_index_or, []}
use Rattle.ess_grid.specs.Points.{IsPoint}
use Rattle.cost_model.specs.Prices.{block_at}
use Rattle.plan_space.specs.Alike.{AreInside}
use Rattle.plan_space.proofs.Places.{next-place, no-axis, alike-place}
use Rattle.plan_space.proofs.alike.alike_place.Goals as goal

pub loop-axis-init : goal.loop-axis-init
loop-axis-init c =
    no-axis c.args.prices.now.costing.grid (slice_index_or c.args.inside.now c.number.result []) c.args.prices.now.point c.levels-levels.result.now (c.levels-levels.ensures.levels ∙ c.point.ensures.point)

pub overflow_mul-place : goal.overflow_mul-place
overflow_mul-place c =
    let at = c.args.prices.now in
    let axis = c.loop-axis.axis in
    let lent = c.levels-levels.result.now in
    let inside = slice_index_or c.args.inside.now c.number.result [] in
    let next = next-place at.costing.grid inside at.point lent c.levels-count.result axis c.loop-axis.place (cond (slice_index_or inside (axis - 1) false) (get_or lent (axis - 1) 0) 0)
    c.block-block.ensures.costing.grid (subst (IsPoint at.costing.grid) c.point.ensures.point c.point.ensures.of_grid) (c.levels-count.ensures.levels ∙ ap (λ grid. grid.levels) c.grid.ensures)
    (c.levels-levels.ensures.levels ∙ c.point.ensures.point) (omega (arith, c.loop-axis-test.true)) (omega (arith, c.loop-axis.auto.axis)) c.loop-axis.invariant refl in
    omega (arith, next.1)

pub overflow_add-place : goal.overflow_add-place
overflow_add-place c =
    let at = c.args.prices.now in
    let axis = c.loop-axis.axis in
    let lent = c.levels-levels.result.now in
    let inside = slice_index_or c.args.inside.now c.number.result [] in
    let next = next-place at.costing.grid inside at.point lent c.levels-count.result axis c.loop-axis.place c.kept_level.result
    c.block-block.ensures.costing.grid (subst (IsPoint at.costing.grid) c.point.ensures.point c.point.ensures.of_grid) (c.levels-count.ensures.levels ∙ ap (λ grid. grid.levels) c.grid.ensures)
    (c.levels-levels.ensures.levels ∙ c.point.ensures.point) (omega (arith, c.loop-axis-test.true)) (omega (arith, c.loop-axis.auto.axis)) c.loop-axis.invariant c.kept_level.ensures in
    omega (arith, next.1)

pub loop-axis-preserved : goal.loop-axis-preserved
loop-axis-preserved c =
    let at = c.args.prices.now in
    let axis = c.loop-axis.axis in
    let lent = c.levels-levels.result.now in
    let inside = slice_index_or c.args.inside.now c.number.result [] in
    (next-place at.costing.grid inside at.point lent c.levels-count.result axis c.loop-axis.place c.kept_level.result
    c.block-block.ensures.costing.grid (subst (IsPoint at.costing.grid) c.point.ensures.point c.point.ensures.of_grid) (c.levels-count.ensures.levels ∙ ap (λ grid. grid.levels) c.grid.ensures)
    (c.levels-levels.ensures.levels ∙ c.point.ensures.point) (omega (arith, c.loop-axis-test.true)) (omega (arith, c.loop-axis.auto.axis)) c.loop-axis.invariant c.kept_level.ensures).0

pub returns : goal.returns
returns c =
    let at = c.args.prices.now in
    let inside = slice_index_or c.args.inside.now c.number.result [] in
    let none : c.loop-axis.axis ≡ 0 = omega (arith, c.loop-axis-test.false) in
    alike-place at c.args.set inside c.loop-axis.place c.block-block.ensures.costing (subst (IsPoint at.costing.grid) c.point.ensures.point c.point.ensures.of_grid)
    (subst (λ number. AreInside (block_at at) c.args.set (slice_index_or c.args.inside.now number [])) (sym c.number.ensures) (c.requires.inside c.args.set c.requires.set)) (rw none at c.loop-axis.invariant)
