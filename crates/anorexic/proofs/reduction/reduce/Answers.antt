use Rattle.std.proofs.Common.{◌≡◌, ◌∙◌, map, ap}
use Rattle.std.proofs.lemmas.Result.{IfOk-weaker}
use Rattle.plan_tree.specs.Plans.{plan_tree}
use Rattle.cost_model.specs.Costing.{costing_tree}
use Rattle.cost_model.specs.Greedy.{greedy}
use Rattle.cost_model.specs.FrontierPoints.{frontier_points}
use Rattle.plan_space.specs.SurfacePoints.{surface_points}
use Rattle.anorexic.proofs.Frontier.{apart-holds, apart-points}
use Rattle.anorexic.proofs.reduction.reduce.Goals as goal

pub reduce_frontier-requires-clause-frontier : goal.reduce_frontier-requires-clause-frontier
reduce_frontier-requires-clause-frontier c =
    apart-holds (costing_tree c.args.costing.now) c.args.frontier.now c.in_ok-apart.apart c.requires.frontier.each
    c.in_ok-apart.ensures.points c.in_ok-apart.ensures.plans

pub returns : goal.returns
returns c =
    let costing = costing_tree c.args.costing.now in
    let frontier = c.args.frontier.now in
    let apart = c.in_ok-apart.apart in
    IfOk-weaker c.reduce_frontier.result (λ plans. map plan_tree plans.items ≡ greedy costing c.args.threshold (surface_points apart.points.items))
    (λ plans. map plan_tree plans.items ≡ greedy costing c.args.threshold (frontier_points frontier))
    (λ plans is. is ∙ ap (greedy costing c.args.threshold) (apart-points frontier apart c.in_ok-apart.ensures.points)) c.reduce_frontier.ensures
