use Rattle.std.proofs.Common.{ℕ, List, sym, subst, arith}
use Rattle.std.specs.Prelude.{Option, Some, IfSome}
use Rattle.ess_grid.specs.Points.{IsPoint}
use Rattle.plan_tree.specs.Plans.{plan_tree}
use Rattle.cost_model.specs.Costing.{costing_tree}
use Rattle.learned_run.specs.Raising.{RulesOut}
use Rattle.learned_run.proofs.RuledOut.{stays-past, stays-raised}
use Rattle.learned_run.proofs.raise.rule_out.Goals as goal

pub returns-then-cost-budget-clause-levels : goal.returns-then-cost-budget-clause-levels
returns-then-cost-budget-clause-levels c =
    let costing = costing_tree c.args.costing.now in
    let p = plan_tree c.args.p.now in
    let point = c.in_ok-point.point in
    let of_grid = subst (λ (least : Option (List ℕ)). IfSome least (IsPoint costing.grid)) c.in_ok-point.was c.requires.point in
    subst (λ (least : Option (List ℕ)). RulesOut costing p c.args.budget least (Some point)) (sym c.in_ok-point.was)
    (stays-raised costing p c.args.budget point of_grid (omega (arith, c.cost.ensures.cost, c.if-cost-budget.true)))

pub returns-then-are_past-clause-levels : goal.returns-then-are_past-clause-levels
returns-then-are_past-clause-levels c =
    let costing = costing_tree c.args.costing.now in
    let p = plan_tree c.args.p.now in
    let point = c.in_ok-point.point in
    let of_grid = subst (λ (least : Option (List ℕ)). IfSome least (IsPoint costing.grid)) c.in_ok-point.was c.requires.point in
    subst (λ (least : Option (List ℕ)). RulesOut costing p c.args.budget least (Some point)) (sym c.in_ok-point.was)
    (stays-past costing p c.args.budget point c.requires.plan of_grid (c.are_past.ensures c.if-are_past.true))
