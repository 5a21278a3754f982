use Rattle.std.proofs.Common.{◌≡◌, ◌∙◌, ◌<◌, sym, arith}
use Rattle.ess_grid.specs.Points.{bottom_of, top_of}
use Rattle.cost_model.specs.Costing.{costing_tree}
use Rattle.cost_model.specs.Optimal.{optimal_cost}
use Rattle.bouquet_type.specs.Budgets.{contour_cost}
use Rattle.contours.proofs.Extremes.{optimal-below}
use Rattle.bouquet_type.proofs.Doubling.{next-cost}
use Rattle.contours.proofs.Count.{top_cost, count-last, count-more, count-done}
use Rattle.contours.proofs.maker.count.Goals as goal

pub loop-last-init : goal.loop-last-init
loop-last-init c =
    let costing = costing_tree c.args.outlook.now in
    let first : contour_cost costing 1 ≡ optimal_cost costing (bottom_of costing.grid) = omega arith in
    record {
      some = omega arith;
      within = (count-last costing c.costing-costing.ensures.costing).0.some;
      cost = c.bottom_cost-last.ensures ∙ sym first;
    }

pub overflow_mul-last : goal.overflow_mul-last
overflow_mul-last c =
    let costing = costing_tree c.args.outlook.now in
    omega (arith, c.loop-last-test.true, c.top_cost-top.ensures, optimal-below costing (top_of costing.grid) c.costing-costing.ensures.costing)

pub overflow_add-count : goal.overflow_add-count
overflow_add-count c =
    let costing = costing_tree c.args.outlook.now in
    omega (arith, c.loop-last.invariant.within, (count-last costing c.costing-costing.ensures.costing).1)

pub loop-last-smaller : goal.loop-last-smaller
loop-last-smaller c =
    let costing = costing_tree c.args.outlook.now in
    let now = c.loop-last.invariant in
    let less : contour_cost costing c.loop-last.count < top_cost costing = omega (arith, now.cost, c.loop-last-test.true, c.top_cost-top.ensures) in
    omega (arith, count-more costing c.loop-last.count c.costing-costing.ensures.costing now.within less)

pub loop-last-preserved : goal.loop-last-preserved
loop-last-preserved c =
    let costing = costing_tree c.args.outlook.now in
    let now = c.loop-last.invariant in
    let less : contour_cost costing c.loop-last.count < top_cost costing = omega (arith, now.cost, c.loop-last-test.true, c.top_cost-top.ensures) in
    record {
      some = omega arith;
      within = omega (arith, count-more costing c.loop-last.count c.costing-costing.ensures.costing now.within less);
      cost = omega (arith, now.cost, next-cost costing c.loop-last.count now.some);
    }

pub returns-clause-count : goal.returns-clause-count
returns-clause-count c =
    let costing = costing_tree c.args.outlook.now in
    let now = c.loop-last.invariant in
    count-done costing c.loop-last.count c.costing-costing.ensures.costing now.some now.within (omega (arith, now.cost, c.loop-last-test.false, c.top_cost-top.ensures))
