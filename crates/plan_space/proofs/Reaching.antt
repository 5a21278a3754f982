-- The optimal costs of points, as they become known.
use Rattle.std.proofs.Common.{◌≡◌, ◌∙◌, ◌≢◌, inl, inr, ℕ, ◌+◌, ◌<◌, ◌≤◌, ◌^◌, Bool, true, false, List, [], ◌∷◌, ◌++◌, Some, length, map, take, nat_eq, get_or, refl, ap, sym, subst, arith}
use Rattle.std.specs.Prelude.{nat_le, slice_index}
use Rattle.std.proofs.Math.Seq.{take-append_seam}
use Rattle.std.proofs.lemmas.Bool.{cases_lt}
use Rattle.std.proofs.lemmas.Bool.Decides.{nat_tests}
use Rattle.std.proofs.lemmas.List.{ext_get_or, get_or-map, length-map}
use Rattle.std.proofs.lemmas.Option.{get_or_from_slice_get, same_Some, slice_get-get_or, slice_get_within}
use Rattle.sql_values.specs.Limits.{max_contour_cost}
use Rattle.ess_grid.specs.Points.{point_at, points_of}
use Rattle.ess_grid.specs.Order.{next_point}
use Rattle.ess_grid.proofs.PointOrder.{PointBelow-next_point}
use Rattle.plan_tree.specs.Plans.{PlanTree}
use Rattle.plan_tree.specs.AllPlans.{plans_of}
use Rattle.plan_tree.proofs.Members.{IsIn}
use Rattle.plan_tree.proofs.Enumerated.{of-plans}
use Rattle.cost_model.specs.Costing.{CostingTree, IsCosting}
use Rattle.cost_model.specs.Costs.{cost_of}
use Rattle.cost_model.specs.Frontier.{is_within_cost}
use Rattle.cost_model.specs.Optimal.{least_of, optimal_cost}
use Rattle.cost_model.proofs.Bounds.{cost-below}
use Rattle.cost_model.proofs.Monotone.{optimal-le}
use Rattle.plan_space.specs.Places.{HoldsAt}
use Rattle.plan_space.specs.Surface.{optimal_costs}
use Rattle.plan_space.specs.KnownCosts.{AreAllReached, AreReached, IsBeyond}

-- ---- the greatest of the optimal costs

least-below : (cost : PlanTree → ℕ) (plans : List PlanTree) (bound : ℕ) → 0 < bound → ((p : PlanTree) → IsIn p plans → cost p < bound) → least_of (map cost plans) < bound
least-below cost [] bound some all = some
least-below cost (p ∷ []) bound some all = all p (inl refl)
least-below cost (p ∷ q ∷ more) bound some all = omega (arith, all p (inl refl))

pub optimal-few : (costing : CostingTree) (point : List ℕ) → IsCosting costing → optimal_cost costing point < 2 ^ 113
optimal-few costing point is =
    least-below (λ p. cost_of costing p point) (plans_of costing.block) (2 ^ 113) (omega arith)
    (λ p there. cost-below costing p point is (of-plans costing.block p there).nodes)

-- ---- a point is left out

-- where it is above one that costs more
pub beyond-dearer : (costing : CostingTree) (costs : List ℕ) (cost place : ℕ) → AreReached costing cost place costs → IsBeyond costing.grid costs cost place
    → HoldsAt costing.grid place (λ point. cost < optimal_cost costing point)
beyond-dearer costing costs cost place reached is point there =
    let above : next_point is.lower is.axis ≡ point = same_Some (next_point is.lower is.axis) point (sym is.next ∙ there) in
    let more = optimal-le costing is.lower (next_point is.lower is.axis) (PointBelow-next_point is.lower is.axis) in
    let costs-more : cost < optimal_cost costing is.lower = elim (cases_lt cost (optimal_cost costing is.lower)) [
      | inl less ↦ less
      | inr within ↦
          let known = reached.within is.below is.lower is.earlier is.there within in
          absurd (omega (arith, is.dearer, known, within))
    ] in
    subst (λ one. cost < optimal_cost costing one) above (omega (arith, costs-more, more))

-- ---- one place more

pub reached-more : (costing : CostingTree) (costs : List ℕ) (cost end : ℕ) → AreReached costing cost end costs
    → HoldsAt costing.grid end (λ point. optimal_cost costing point ≤ cost → slice_index costs end ≡ optimal_cost costing point) → AreReached costing cost (end + 1) costs
reached-more costing costs cost end reached here = record {
  known = reached.known;
  within = λ place point before there within. by place point before there within (nat_eq place end) refl;
}
  where
    by : (place : ℕ) (point : List ℕ) → place < end + 1 → point_at costing.grid place ≡ Some point → optimal_cost costing point ≤ cost → (t : Bool) → nat_eq place end ≡ t
        → slice_index costs place ≡ optimal_cost costing point
    by place point before there within true e =
        let same : place ≡ end = grind arith in
        subst (λ n. slice_index costs n ≡ optimal_cost costing point) (sym same) (here point (subst (λ n. point_at costing.grid n ≡ Some point) same there) within)
    by place point before there within false e =
        let ne : place ≢ end = grind arith in
        reached.within place point (omega (arith, before, ne)) there within

-- ---- all places

-- a cost that all points are within
pub all-reached : (costing : CostingTree) (costs : List ℕ) → IsCosting costing → AreAllReached costing max_contour_cost costs → costs ≡ optimal_costs costing
all-reached costing costs is reached =
    let points = points_of costing.grid in
    let cost = optimal_cost costing in
    ext_get_or 0 costs (map cost points) (reached.known.long ∙ sym (length-map points cost))
    (λ place before.
    let below : place < length points = omega (arith, before, reached.known.long) in
    let point = get_or points place [] in
    reached.within place point below (slice_get-get_or points place [] below) (omega (arith, optimal-few costing point is)) ∙ sym (get_or-map cost points place [] 0 below))

-- the costs that were lent are handed back
pub handed-back : (costs rest : List ℕ) (long : ℕ) → long ≡ length costs → take long (costs ++ rest) ≡ costs
handed-back costs rest long same = ap (λ n. take n (costs ++ rest)) same ∙ take-append_seam costs rest

-- all costs are known
pub known-all : (costing : CostingTree) (costs : List ℕ) → costs ≡ optimal_costs costing → (cost : ℕ) → AreAllReached costing cost costs
known-all costing costs are cost =
    let points = points_of costing.grid in
    let each : (place : ℕ) (point : List ℕ) → point_at costing.grid place ≡ Some point → slice_index costs place ≡ optimal_cost costing point = λ place point there.
    let below = slice_get_within points place point there in
    ap (λ all. get_or all place 0) are ∙ get_or-map (optimal_cost costing) points place [] 0 below ∙ ap (optimal_cost costing) (get_or_from_slice_get points place point [] there) in
    record {
      known = record {
        long = ap length are ∙ length-map points (optimal_cost costing);
        right = λ place point there. inr (each place point there);
      };
      within = λ place point before there within. each place point there;
    }

-- ---- what is within the cost

pub within-reached : (costing : CostingTree) (costs : List ℕ) (cost place : ℕ) → cost ≤ max_contour_cost → AreAllReached costing cost costs → place < length (points_of costing.grid)
    → HoldsAt costing.grid place (λ point. nat_le (slice_index costs place) cost ≡ is_within_cost costing cost point)
within-reached costing costs cost place few reached below point there =
    elim (cases_lt cost (optimal_cost costing point)) [
      | inl more ↦
          let dear : cost < slice_index costs place = elim (reached.known.right place point there) [
            | inl unknown ↦ omega (arith, unknown, few)
            | inr is ↦ omega (arith, is, more)
          ] in
          let one : nat_le (slice_index costs place) cost ≡ false = grind (arith, nat_tests, dear) in
          let other : nat_le (optimal_cost costing point) cost ≡ false = grind (arith, nat_tests, more) in
          one ∙ sym other
      | inr within ↦ ap (λ n. nat_le n cost) (reached.within place point below there within)
    ]
