use Rattle.std.proofs.Common.{◌∙◌, ap, subst, arith}
use Rattle.ess_grid.specs.Points.{GridShape}
use Rattle.cost_model.specs.Costing.{CostingShape, costing_tree}
use Rattle.plan_space.specs.KnownCosts.{IsBeyond}
use Rattle.plan_space.proofs.Reaching.{beyond-dearer, reached-more}
use Rattle.plan_space.proofs.reach.reach_place.Goals as goal

pub returns-then-is_beyond-clause-reached : goal.returns-then-is_beyond-clause-reached
returns-then-is_beyond-clause-reached c =
    let costing = costing_tree c.args.best.now in
    let costs = c.args.costs.now in
    let grid = c.grid.ensures ∙ ap (λ (one : CostingShape). one.grid) c.costing.ensures in
    let beyond = subst (λ (g : GridShape). IsBeyond g costs c.args.cost c.args.place) grid (c.is_beyond.ensures c.if-is_beyond.true) in
    reached-more costing costs c.args.cost c.args.place c.requires.reached
    (λ point there within.
    let dearer = beyond-dearer costing costs c.args.cost c.args.place c.requires.reached beyond point there in
    absurd (omega (arith, dearer, within)))
