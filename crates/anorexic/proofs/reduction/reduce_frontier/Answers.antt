use Rattle.std.proofs.Common.{◌≡◌, ◌∙◌, ◌*◌, ◌<◌, ◌^◌, ℕ, List, All, ap, ap₂, length, map, subst, sym, arith}
use Rattle.std.proofs.lemmas.List.{length-map}
use Rattle.std.proofs.lemmas.Result.{IfOk-weaker}
use Rattle.plan_tree.specs.declared.plan.Plan.{Plan}
use Rattle.plan_tree.specs.Plans.{plan_tree, FitsSet}
use Rattle.cost_model.specs.Costing.{CostingShape, costing_tree}
use Rattle.cost_model.specs.Greedy.{greedy}
use Rattle.plan_space.specs.declared.surface.SurfacePoint.{SurfacePoint}
use Rattle.plan_space.specs.SurfacePoints.{surface_points}
use Rattle.plan_space.specs.FrontierPlans.{HoldsBest}
use Rattle.anorexic.specs.Turns.{IsCoverTable, plan_at}
use Rattle.anorexic.proofs.Frontier.{costs-few, plan-some, plans-fit}
use Rattle.anorexic.proofs.Table.{table-long}
use Rattle.anorexic.proofs.Steps.{all-turns}
use Rattle.anorexic.proofs.reduction.reduce_frontier.Goals as goal

pub cover_table-requires-clause-costs : goal.cover_table-requires-clause-costs
cover_table-requires-clause-costs c =
    subst (All (λ (at : SurfacePoint). at.cost < 2 ^ 113)) (sym c.as_slice-points.ensures.value)
    (costs-few (costing_tree c.args.costing.now) c.args.frontier.now c.block-block.ensures.costing c.requires.frontier)

pub turns-requires-clause-fit : goal.turns-requires-clause-fit
turns-requires-clause-fit c =
    let frontier = c.args.frontier.now in
    let points = frontier.points.items in
    subst (All (λ (p : Plan). FitsSet (plan_tree p))) (sym c.as_slice-candidates.ensures.value)
    (plans-fit (costing_tree c.args.costing.now) (surface_points points) frontier.plans.items (length points) c.block-block.ensures.costing c.requires.frontier.plans)

pub turns-requires-clause-some : goal.turns-requires-clause-some
turns-requires-clause-some c = λ some.
    let frontier = c.args.frontier.now in
    let points = frontier.points.items in
    let plan = plan-some (costing_tree c.args.costing.now) (surface_points points) frontier.plans.items (length points) c.requires.frontier.plans
    (omega (arith, some, ap length c.as_slice-points.ensures.value)) in
    omega (arith, plan, ap length c.as_slice-candidates.ensures.value)

pub turns-requires-clause-table : goal.turns-requires-clause-table
turns-requires-clause-table c =
    let points = c.as_slice-points.result.now in
    let candidates = c.as_slice-candidates.result.now in
    let table = c.in_ok-table.table.items in
    let costing = costing_tree c.in_ok-costed.costed.costing in
    let is = subst (λ plans. IsCoverTable costing c.args.threshold (surface_points points) plans table) c.in_ok-costed.ensures.plans c.in_ok-table.ensures in
    ap length c.as_slice.ensures.value
    ∙ table-long costing c.args.threshold (surface_points points) (map plan_tree candidates) table is
    ∙ ap₂ (λ (a b : ℕ). a * b) (length-map points (λ (at : SurfacePoint). at.point)) (length-map candidates plan_tree)

pub returns : goal.returns
returns c =
    let costing = costing_tree c.args.costing.now in
    let threshold = c.args.threshold in
    let frontier = c.args.frontier.now in
    let points = c.as_slice-points.result.now in
    let candidates = c.as_slice-candidates.result.now in
    let long = length-map points (λ (at : SurfacePoint). at.point) in
    let held : HoldsBest costing (surface_points points) (length points) candidates =
    subst (λ (all : List SurfacePoint). HoldsBest costing (surface_points all) (length all) candidates) (sym c.as_slice-points.ensures.value)
    (subst (HoldsBest costing (surface_points frontier.points.items) (length frontier.points.items)) (sym c.as_slice-candidates.ensures.value) c.requires.frontier.plans) in
    let made = subst (λ plans. IsCoverTable (costing_tree c.in_ok-costed.costed.costing) threshold (surface_points points) plans c.in_ok-table.table.items)
    c.in_ok-costed.ensures.plans c.in_ok-table.ensures in
    let table : IsCoverTable costing threshold (surface_points points) (map plan_tree candidates) c.as_slice.result.now =
    c.as_slice.ensures.value
    ∙ subst (λ (one : CostingShape). IsCoverTable (costing_tree one) threshold (surface_points points) (map plan_tree candidates) c.in_ok-table.table.items) c.in_ok-costed.ensures.costing made in
    let taken = ap (map (plan_at candidates)) c.as_slice-2.ensures.value
    ∙ c.in_ok-taken.ensures.greedy costing threshold (surface_points points) long table
    ∙ all-turns costing threshold (surface_points points) (length points) candidates long held
    ∙ ap (λ (all : List SurfacePoint). greedy costing threshold (surface_points all)) c.as_slice-points.ensures.value in
    IfOk-weaker c.copies.result (λ plans. map plan_tree plans.items ≡ map (plan_at candidates) c.as_slice-2.result.now)
    (λ plans. map plan_tree plans.items ≡ greedy costing threshold (surface_points frontier.points.items))
    (λ plans is. is ∙ taken) c.copies.ensures
