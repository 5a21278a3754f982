-- From a point within a contour's cost steps up come to a point of its frontier, which has no more points than the grid.
use Rattle.std.proofs.Common.{◌≡◌, inl, inr, ℕ, zero, suc, ◌+◌, ◌-◌, ◌*◌, ◌≤◌, List, length, ap, subst, arith, sum}
use Rattle.std.specs.Prelude.{Contains, slice_index, true, false, not, nat_lt, filter}
use Rattle.std.specs.List.{list_any, range_with_len}
use Rattle.std.proofs.lemmas.Bool.{cases_Bool, and_from, ltb-true, le-leb}
use Rattle.std.proofs.lemmas.List.Sums.{length-filter, count_by-le-length}
use Rattle.std.proofs.lemmas.Option.{slice_get_within, get_or_from_slice_get}
use Rattle.sql_values.specs.Limits.{max_points}
use Rattle.ess_grid.specs.Points.{GridShape, IsGrid, IsPoint, points_of}
use Rattle.ess_grid.specs.Order.{PointBelow, next_point, successors}
use Rattle.ess_grid.proofs.PointsAmong.{place_at}
use Rattle.ess_grid.proofs.PointOrder.{PointBelow-refl, PointBelow-trans, PointBelow-next_point}
use Rattle.ess_grid.proofs.GridPoints.{IsPoint-next_point, sum-next_point, sum-below, slice_get-place_at, length-points_of}
use Rattle.plan_tree.proofs.Members.{IsIn, in-contained, contained-in, of-map, of-filter, in-filter, of-range, of-any}
use Rattle.cost_model.specs.Costing.{CostingTree}
use Rattle.cost_model.specs.Optimal.{optimal_cost}
use Rattle.cost_model.specs.Frontier.{is_within_cost, is_on_frontier, frontier}

-- a point of the grid is among its points
pub in-points : (grid : GridShape) (point : List ℕ) → IsGrid grid → IsPoint grid point → IsIn point (points_of grid)
in-points grid point is_grid is_point =
    let place = place_at grid.levels point in
    let at = slice_get-place_at grid point is_grid is_point in
    in-contained point (points_of grid) (
      place,
      slice_get_within (points_of grid) place point at,
      get_or_from_slice_get (points_of grid) place point point at,
    )

-- what is said of a point that is one step above
record IsStep (grid : GridShape) (point other : List ℕ) : Type 0 where
  is_point : IsPoint grid other
  above : PointBelow point other
  one_more : sum other ≡ sum point + 1

is-step : (grid : GridShape) (point other : List ℕ) → IsPoint grid point → IsIn other (successors grid point) → IsStep grid point other
is-step grid point other is_point is =
    let lower : ℕ → _ = λ axis. nat_lt (slice_index point axis + 1) grid.levels in
    let found = of-map (next_point point) other (filter lower (range_with_len 0 grid.axes)) is in
    let axis = found.0 in
    let kept = of-filter lower axis (range_with_len 0 grid.axes) found.1 in
    let below = (of-range axis 0 grid.axes kept.0).1 in
    let next : IsStep grid point (next_point point axis) = record {
      is_point = IsPoint-next_point grid point axis is_point (ltb-true _ _ kept.1);
      above = PointBelow-next_point point axis;
      one_more = sum-next_point point axis (omega (arith, below, is_point.axes));
    } in
    subst (IsStep grid point) found.2 next

-- a point of the frontier above a point
abbrev IsClimbed : CostingTree → (cost : ℕ) → (point : List ℕ) → Type 0
IsClimbed costing cost point = (other : List ℕ) × IsIn other (frontier costing cost) × PointBelow point other

-- where no point that is next above is within the cost, the point itself is one
stays : (costing : CostingTree) (cost : ℕ) (point : List ℕ) → IsGrid costing.grid → IsPoint costing.grid point → is_within_cost costing cost point ≡ true
    → list_any (is_within_cost costing cost) (successors costing.grid point) ≡ false → IsClimbed costing cost point
unfolding frontier
stays costing cost point is_grid is_point within none = (
  point,
  in-filter (is_on_frontier costing cost) point (points_of costing.grid) (in-points costing.grid point is_grid is_point)
      (and_from _ _ within (ap not none)),
  PointBelow-refl point,
)

-- each step up makes the sum of the levels greater by one, and the top's sum is the greatest
climb : (costing : CostingTree) (cost fuel : ℕ) (point : List ℕ) → IsGrid costing.grid → IsPoint costing.grid point → is_within_cost costing cost point ≡ true
    → costing.grid.axes * (costing.grid.levels - 1) ≤ fuel + sum point → IsClimbed costing cost point
climb costing cost zero point is_grid is_point within enough =
    elim (cases_Bool (list_any (is_within_cost costing cost) (successors costing.grid point))) [
      | inl some ↦
          let found = of-any (is_within_cost costing cost) (successors costing.grid point) some in
          let step = is-step costing.grid point found.0 is_point found.1 in
          absurd (omega (arith, step.one_more, sum-below costing.grid found.0 step.is_point, enough))
      | inr none ↦ stays costing cost point is_grid is_point within none
    ]
climb costing cost (suc fuel) point is_grid is_point within enough =
    elim (cases_Bool (list_any (is_within_cost costing cost) (successors costing.grid point))) [
      | inl some ↦
          let found = of-any (is_within_cost costing cost) (successors costing.grid point) some in
          let step = is-step costing.grid point found.0 is_point found.1 in
          let rest = climb costing cost fuel found.0 is_grid step.is_point found.2 (omega (arith, step.one_more, enough)) in
          (rest.0, rest.1, PointBelow-trans point found.0 rest.0 step.above rest.2)
      | inr none ↦ stays costing cost point is_grid is_point within none
    ]

pub frontier-above : (costing : CostingTree) (cost : ℕ) (point : List ℕ) → IsGrid costing.grid → IsPoint costing.grid point → optimal_cost costing point ≤ cost
    → (other : List ℕ) × Contains (frontier costing cost) other × PointBelow point other
frontier-above costing cost point is_grid is_point within =
    let found = climb costing cost (costing.grid.axes * (costing.grid.levels - 1)) point is_grid is_point (le-leb _ _ within) (omega arith) in
    (found.0, contained-in found.0 (frontier costing cost) found.1, found.2)

-- a frontier has no more points than the grid
pub frontier-few : (costing : CostingTree) (cost : ℕ) → IsGrid costing.grid → length (frontier costing cost) ≤ max_points
unfolding frontier
frontier-few costing cost is =
    omega (arith, length-filter (is_on_frontier costing cost) (points_of costing.grid), count_by-le-length (is_on_frontier costing cost) (points_of costing.grid), length-points_of costing.grid, is.few_points)
