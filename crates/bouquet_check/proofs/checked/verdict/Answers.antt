use Rattle.std.proofs.Common.{◌≤◌, ap, sym, arith}
use Rattle.std.proofs.lemmas.Grind.{common_steps}
use Rattle.ess_grid.specs.Points.{bottom_of}
use Rattle.cost_model.specs.Costing.{CostingTree}
use Rattle.cost_model.specs.Optimal.{optimal_cost}
use Rattle.bouquet_type.specs.Trees.{bouquet_tree}
use Rattle.bouquet_type.specs.Sound.{first_cost}
use Rattle.bouquet_check.proofs.Answered.{bottom_cost, top_cost, first-answer, step-answer, last-answer, covers-answer}
use Rattle.bouquet_check.proofs.checked.verdict.Goals as goal

pub returns-then-first_cost-bottom_cost : goal.returns-then-first_cost-bottom_cost
returns-then-first_cost-bottom_cost c = grind (arith, common_steps, first-answer)

pub returns-in-Some : goal.returns-in-Some
returns-in-Some c =
    let tree = bouquet_tree c.args.b.now in
    let bottom = ap (λ (one : CostingTree). optimal_cost one (bottom_of one.grid)) c.requires in
    let first : first_cost tree.contours ≤ bottom_cost tree = omega (arith, c.first_cost.ensures, c.bottom_cost.ensures, bottom, c.if-first_cost-bottom_cost.false) in
    sym (step-answer tree c.in-Some.contour first (sym c.in-Some.ensures))

pub returns-then-last_cost-top_cost : goal.returns-then-last_cost-top_cost
returns-then-last_cost-top_cost c = grind (arith, common_steps, bottom_cost, top_cost, last-answer)

pub returns : goal.returns
returns c = grind (arith, common_steps, bottom_cost, top_cost, covers-answer)
