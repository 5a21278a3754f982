-- The least levels of the points that are left rise as is defined.
use Rattle.std.proofs.Common.{◌≡◌, ◌∙◌, inl, inr, ℕ, ◌<◌, ◌≤◌, ◌++◌, List, [], ◌∷◌, refl, ap, sym, subst, arith}
use Rattle.std.specs.Prelude.{Bool, Option, Some, None, true, false, slice_index, IfSome, if◌then◌else◌}
use Rattle.std.specs.List.{list_any}
use Rattle.std.proofs.lemmas.List.{length-replicate, get_or-replicate}
use Rattle.std.proofs.lemmas.List.Elements.{All-replicate}
use Rattle.std.proofs.lemmas.Bool.{cases_lt}
use Rattle.ess_grid.specs.Points.{IsGrid, IsPoint, bottom_of, top_of}
use Rattle.ess_grid.specs.Order.{PointBelow}
use Rattle.ess_grid.proofs.GridPoints.{IsPoint-top, PointBelow-top}
use Rattle.plan_tree.specs.Plans.{PlanTree}
use Rattle.plan_tree.specs.Enumerated.{IsPlan}
use Rattle.plan_tree.proofs.Members.{IsIn}
use Rattle.cost_model.specs.Costing.{CostingTree}
use Rattle.cost_model.specs.Costs.{cost_of}
use Rattle.cost_model.specs.Optimal.{optimal_cost}
use Rattle.cost_model.proofs.Least.{optimal-least}
use Rattle.cost_model.proofs.Monotone.{cost-le}
use Rattle.bouquet_type.specs.Schedule.{Member}
use Rattle.learned_run.specs.Learning.{learned_point, least_levels, points_left}
use Rattle.learned_run.specs.Raising.{IsRaised, RulesOut, IsLearned, corner_of}
use Rattle.learned_run.proofs.Left.{left-above, left-still, left-before, in-left, of-left}
use Rattle.learned_run.proofs.Levels.{AreLeast, levels-are, are-levels, no-points, levels-none}
use Rattle.learned_run.proofs.CornerPoints.{corner-level, corner-point, below-corner}

module _ (costing : CostingTree) (exhausted : List Member) (member : Member) (is_grid : IsGrid costing.grid) where
  abbrev left : List (List ℕ)
  left = points_left costing exhausted

  abbrev still : List (List ℕ)
  still = points_left costing (exhausted ++ member ∷ [])

  abbrev cost_at : List ℕ → ℕ
  cost_at point = cost_of costing member.plan point

  -- what is still left was left before, and the plan costs more there than the budget
  was-left : (point : List ℕ) → IsIn point still → IsPoint costing.grid point × IsIn point left × (member.budget < cost_at point)
  was-left point is =
      let of = of-left costing (exhausted ++ member ∷ []) point is_grid is in
      let before = left-before costing exhausted member point of.1 in
      (of.0, in-left costing exhausted point is_grid of.0 before.0, before.1)

  -- a point of the grid above one that was left is still left where the plan costs more
  stays-left : (point other : List ℕ) → IsIn point left → PointBelow point other → IsPoint costing.grid other → member.budget < cost_at other → IsIn other still
  stays-left point other is below is_point past =
      let of = of-left costing exhausted point is_grid is in
      in-left costing (exhausted ++ member ∷ []) other is_grid is_point
      (left-still costing exhausted member other (left-above costing exhausted point other below of.1) past)

  none-left : ((point : List ℕ) → IsIn point left → cost_at point ≤ member.budget) → None ≡ least_levels costing.grid still
  none-left within =
      let none : still ≡ [] = no-points still (λ point is. let was = was-left point is in omega (arith, was.2, within point was.1)) in
      ap (least_levels costing.grid) (sym none)

  raised-least : (before after : List ℕ) → least_levels costing.grid left ≡ Some before → IsRaised costing member.plan member.budget before after → AreLeast costing.grid still after
  raised-least before after is raised =
      let grid = costing.grid in
      let are = levels-are grid left before is in
      let top = top_of grid in
      let first = are.some in
      let first_point = (of-left costing exhausted first.0 is_grid first.1).0 in
      record {
        some = (top, stays-left first.0 top first.1 (PointBelow-top grid first.0 first_point) (IsPoint-top grid is_grid) raised.top);
        axes = raised.of_grid.axes;
        below = λ point is_in axis there.
            let was = was-left point is_in in
            let level = raised.levels axis there in
            elim (cases_lt (slice_index point axis) (slice_index after axis)) [
              | inl lower ↦
                  let corner = corner_of grid axis (slice_index point axis) in
                  let most = cost-le costing member.plan point corner (below-corner grid point axis (slice_index point axis) was.0 (omega arith)) in
                  let within = level.within (slice_index point axis) (are.below point was.1 axis there) lower in
                  absurd (omega (arith, was.2, most, within))
              | inr enough ↦ enough
            ];
        there = λ axis there.
            let found = are.there axis there in
            let level = raised.levels axis there in
            let corner = corner_of grid axis (slice_index after axis) in
            let found_point = (of-left costing exhausted found.0 is_grid found.1).0 in
            let below = below-corner grid found.0 axis (slice_index after axis) found_point (omega (arith, found.2, level.risen)) in
            let within : slice_index after axis < grid.levels = raised.of_grid.levels axis 0 (omega (arith, there, raised.of_grid.axes)) in (
              corner,
              stays-left found.0 corner found.1 below (corner-point grid axis (slice_index after axis) is_grid within) level.past,
              corner-level grid axis (slice_index after axis) there,
            );
      }

  -- so the least levels are those of what is still left
  pub ruled-out : (before after : Option (List ℕ)) → before ≡ least_levels costing.grid left → RulesOut costing member.plan member.budget before after
      → after ≡ least_levels costing.grid still
  ruled-out None after is rules =
      let none : left ≡ [] = levels-none costing.grid left (sym is) in
      rules ∙ none-left (λ point is_in. absurd (subst (IsIn point) none is_in))
  ruled-out (Some before) None is rules =
      none-left (
      λ point is_in.
      let is_point = (of-left costing exhausted point is_grid is_in).0 in
      omega (arith, rules, cost-le costing member.plan point (top_of costing.grid) (PointBelow-top costing.grid point is_point))
      )
  ruled-out (Some before) (Some after) is rules = sym (are-levels costing.grid still after (raised-least before after (sym is) rules))

some-behind : (exhausted : List Member) (member : Member) → true ≡ list_any (λ _. true) (exhausted ++ member ∷ [])
some-behind [] member = refl
some-behind (first ∷ more) member = refl

-- where the plan costs more than the budget at the least levels, these stay
pub stays-raised : (costing : CostingTree) (p : PlanTree) (budget : ℕ) (point : List ℕ) → IsPoint costing.grid point → budget < cost_of costing p point
    → IsRaised costing p budget point point
stays-raised costing p budget point is_point past =
    let above : (other : List ℕ) → PointBelow point other → budget < cost_of costing p other = λ other below. omega (arith, past, cost-le costing p point other below) in
    record {
      of_grid = is_point;
      top = above (top_of costing.grid) (PointBelow-top costing.grid point is_point);
      levels = λ axis there. record {
        risen = omega arith;
        past = above (corner_of costing.grid axis (slice_index point axis)) (below-corner costing.grid point axis (slice_index point axis) is_point (omega arith));
        within = λ lower least less. absurd (omega (arith, least, less));
      };
    }

-- so where even the best plan costs more at the top and at the corners
pub stays-past : (costing : CostingTree) (p : PlanTree) (budget : ℕ) (point : List ℕ) → IsPlan costing.block p → IsPoint costing.grid point
    → (budget < optimal_cost costing (top_of costing.grid)) × ((axis : ℕ) → axis < costing.grid.axes → budget < optimal_cost costing (corner_of costing.grid axis (slice_index point axis)))
    → IsRaised costing p budget point point
stays-past costing p budget point plan is_point past = record {
  of_grid = is_point;
  top = omega (arith, past.0, optimal-least costing p (top_of costing.grid) plan);
  levels = λ axis there. record {
    risen = omega arith;
    past =
        omega (arith, past.1 axis there, optimal-least costing p (corner_of costing.grid axis (slice_index point axis)) plan);
    within = λ lower least less. absurd (omega (arith, least, less));
  };
}

-- before an execution is exhausted all points are left
pub nothing-learned : (costing : CostingTree) → IsGrid costing.grid → IsLearned costing [] false (Some (bottom_of costing.grid))
nothing-learned costing is_grid =
    let grid = costing.grid in
    let bottom = bottom_of grid in
    let is_point : IsPoint grid bottom = record {
      axes = length-replicate grid.axes 0;
      levels = All-replicate (λ level. level < grid.levels) grid.axes 0 (omega (arith, is_grid.some_levels));
    } in
    let is_in = in-left costing [] bottom is_grid is_point refl in
    let zero : (axis : ℕ) → axis < grid.axes → slice_index bottom axis ≡ 0 = λ axis there. get_or-replicate grid.axes axis 0 0 there in
    record {
      is_some = refl;
      levels = sym (
          are-levels grid (points_left costing []) bottom (
          record {
            some = (bottom, is_in);
            axes = is_point.axes;
            below = λ point other axis there. omega (arith, zero axis there);
            there = λ axis there. (bottom, is_in, refl);
          }
          )
          );
      of_grid = is_point;
    }

-- and one execution more is learned from
pub learned-more : (costing : CostingTree) (exhausted : List Member) (member : Member) (some : Bool) (before after : Option (List ℕ)) → IsGrid costing.grid
    → IsLearned costing exhausted some before → RulesOut costing member.plan member.budget before after → IfSome after (IsPoint costing.grid)
    → IsLearned costing (exhausted ++ member ∷ []) true after
learned-more costing exhausted member some before after is_grid is rules of_grid = record {
  is_some = some-behind exhausted member;
  levels = ruled-out costing exhausted member is_grid before after is.levels rules;
  of_grid = of_grid;
}

-- the learned point is what is kept, where an execution was exhausted
pub learned-is : (costing : CostingTree) (exhausted : List Member) (some : Bool) (least : Option (List ℕ)) → IsLearned costing exhausted some least
    → (if some then least else None) ≡ learned_point costing exhausted
learned-is costing [] some least is = rw is.is_some refl
learned-is costing (member ∷ more) some least is = rw is.is_some is.levels
