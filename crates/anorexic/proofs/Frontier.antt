-- What holds of the points of a frontier and the plans that are best there.
use Rattle.std.proofs.Common.{map, ◌≡◌, ◌∙◌, ℕ, ◌<◌, ◌^◌, List, [], All, length, ap, sym, subst, arith}
use Rattle.std.proofs.lemmas.List.{get_or-map, length-map}
use Rattle.std.proofs.lemmas.List.Elements.{All-map, All-weaker}
use Rattle.std.proofs.lemmas.Simd.{map-map}
use Rattle.std.specs.Prelude.{Contains, slice_index_or}
use Rattle.plan_tree.specs.declared.plan.Plan.{Plan}
use Rattle.plan_tree.specs.declared.plan.Plan.TheVariants as plan
use Rattle.plan_tree.specs.Plans.{Scan, plan_tree, FitsSet}
use Rattle.cost_model.specs.Costing.{CostingTree, IsCosting}
use Rattle.cost_model.specs.Best.{IsBest}
use Rattle.cost_model.specs.Optimal.{best_plan}
use Rattle.cost_model.proofs.Bounds.{cost-below}
use Rattle.cost_model.proofs.Sets.{fits-set}
use Rattle.cost_model.proofs.Least.{optimal-least}
use Rattle.cost_model.proofs.BestPlans.{best-only}
use Rattle.cost_model.specs.declared.frontier_point.FrontierPoint.{FrontierPoint}
use Rattle.cost_model.specs.FrontierPoints.{IsFrontierPoint, frontier_points}
use Rattle.plan_space.specs.declared.outlook.FrontierPlans.{FrontierPlans}
use Rattle.plan_space.specs.declared.surface.SurfacePoint.{SurfacePoint}
use Rattle.plan_space.specs.SurfacePoints.{IsSurfacePoint, surface_points}
use Rattle.plan_space.specs.FrontierPlans.{AreFrontierPlans, HoldsBest, IsBestAmong, nth_point}

-- a point without its plan
abbrev pub without_plan : FrontierPoint → SurfacePoint
without_plan at = record { point = at.point; cost = at.cost }

pub plans-fit : (costing : CostingTree) (points : List (List ℕ)) (plans : List Plan) (end : ℕ) → IsCosting costing → HoldsBest costing points end plans → All (λ p. FitsSet (plan_tree p)) plans
plans-fit costing points plans end is held =
    All-weaker (λ p. IsBestAmong costing points (plan_tree p)) (λ p. FitsSet (plan_tree p))
    (λ p ok. fits-set costing.block (plan_tree p) is.block.few ok.best.cheapest.plan.nodes) plans held.each

-- where there is a point there is a plan
pub plan-some : (costing : CostingTree) (points : List (List ℕ)) (plans : List Plan) (end : ℕ) → HoldsBest costing points end plans → 0 < end → 0 < length plans
plan-some costing points plans end held some =
    let (place, below, _) = held.all 0 some in
    omega (arith, below, length-map plans plan_tree)

-- so the optimal costs are bounded
pub costs-few : (costing : CostingTree) (frontier : FrontierPlans) → IsCosting costing → AreFrontierPlans costing frontier → All (λ at. at.cost < 2 ^ 113) frontier.points.items
costs-few costing frontier is are place at below =
    let points = frontier.points.items in
    let some = plan-some costing (surface_points points) frontier.plans.items (length points) are.plans (omega (arith, below)) in
    let one = (are.plans.each 0 (plan.Scan 0) some).best.cheapest.plan in
    let p = plan_tree (slice_index_or frontier.plans.items 0 (plan.Scan 0)) in
    let here = slice_index_or points place at in
    omega (arith, (are.points place at below).cost, optimal-least costing p here.point one, cost-below costing p here.point is one.nodes)

-- a frontier that is taken apart
pub apart-points : (frontier : List FrontierPoint) (apart : FrontierPlans) → apart.points.items ≡ map without_plan frontier → surface_points apart.points.items ≡ frontier_points frontier
apart-points frontier apart points = ap surface_points points ∙ map-map (λ (at : SurfacePoint). at.point) without_plan frontier

pub apart-holds : (costing : CostingTree) (frontier : List FrontierPoint) (apart : FrontierPlans) → All (IsFrontierPoint costing) frontier → apart.points.items ≡ map without_plan frontier
    → map plan_tree apart.plans.items ≡ map (λ at. plan_tree at.plan) frontier → AreFrontierPlans costing apart
apart-holds costing frontier apart each are_points are_plans =
    let plans = apart.plans.items in
    let points = frontier_points frontier in
    let tree = λ (at : FrontierPoint). plan_tree at.plan in
    let point = λ (at : FrontierPoint). at.point in
    let long : length plans ≡ length frontier = sym (length-map plans plan_tree) ∙ ap length are_plans ∙ length-map frontier tree in
    let many : length points ≡ length frontier = length-map frontier point in
    let same = sym (apart-points frontier apart are_points) in
    let best : (number : ℕ) (d : FrontierPoint) → number < length frontier → IsBest costing (nth_point points number) (tree (slice_index_or frontier number d)) =
    λ number d less. subst (λ one. IsBest costing one (tree (slice_index_or frontier number d))) (sym (get_or-map point frontier number d [] less)) (each number d less).best in
    let held : HoldsBest costing points (length frontier) plans = record {
      each = λ number p below.
          let less : number < length frontier = omega (arith, below, long) in
          let d : FrontierPoint = record { point = []; plan = p; cost = 0 } in
          let is : tree (slice_index_or frontier number d) ≡ plan_tree (slice_index_or plans number p) =
          sym (get_or-map tree frontier number d (Scan 0) less) ∙ ap (λ all. slice_index_or all number (Scan 0)) (sym are_plans) ∙ get_or-map plan_tree plans number p (Scan 0) below in
          record { number = number; exists = omega (arith, many, less); best = subst (IsBest costing (nth_point points number)) is (best number d less) };
      all = λ number less.
          let d : FrontierPoint = record { point = []; plan = plan.Scan 0; cost = 0 } in
          let only = best-only costing (tree (slice_index_or frontier number d)) (nth_point points number) (best number d less) in
          subst (λ all. Contains all (best_plan costing (nth_point points number))) (sym are_plans)
          (number, omega (arith, less, length-map frontier tree), get_or-map tree frontier number d (best_plan costing (nth_point points number)) less ∙ only);
    } in
    record {
      points = subst (All (IsSurfacePoint costing)) (sym are_points) (All-map (IsSurfacePoint costing) without_plan frontier
          (All-weaker (IsFrontierPoint costing) (λ at. IsSurfacePoint costing (without_plan at)) (λ at ok. record { point = ok.point; cost = ok.cost }) frontier each));
      plans = subst (λ all. HoldsBest costing all (length apart.points.items) plans) same
          (subst (λ n. HoldsBest costing points n plans) (sym (ap length are_points ∙ length-map frontier without_plan)) held);
    }
