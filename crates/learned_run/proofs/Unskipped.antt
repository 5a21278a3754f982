-- Of a compiled bouquet a plan that fits is never skipped, so a run that learns is within the bound.
use Rattle.std.proofs.Common.{◌≡◌, ◌∙◌, ℕ, ◌<◌, ◌≤◌, List, [], ◌∷◌, Contains, get_or, refl, ap, sym, subst, arith}
use Rattle.std.specs.Prelude.{All, true, false, ◌&&◌, Option, Some, None, is_some}
use Rattle.std.proofs.lemmas.Bool.{and_from, lt-ltb}
use Rattle.std.proofs.lemmas.List.Elements.{All-head, All-tail}
use Rattle.std.proofs.lemmas.List.Folds.{list_any_at}
use Rattle.ess_grid.specs.Points.{IsPoint}
use Rattle.ess_grid.specs.Order.{PointBelow}
use Rattle.ess_grid.proofs.PointOrder.{PointBelow-trans}
use Rattle.plan_tree.specs.Plans.{PlanTree}
use Rattle.plan_tree.specs.Enumerated.{IsPlan}
use Rattle.plan_tree.proofs.Members.{IsIn}
use Rattle.cost_model.specs.Costing.{CostingTree, IsCosting}
use Rattle.cost_model.specs.Costs.{cost_of}
use Rattle.cost_model.specs.Optimal.{optimal_cost}
use Rattle.cost_model.specs.Frontier.{frontier}
use Rattle.cost_model.specs.Greedy.{CoversAt, covers_at, greedy}
use Rattle.cost_model.proofs.Covers.{greedy-covers}
use Rattle.cost_model.proofs.Frontiers.{frontier-above}
use Rattle.cost_model.proofs.Monotone.{cost-le}
use Rattle.bouquet_type.specs.Trees.{BouquetTree, ContourTree}
use Rattle.bouquet_type.specs.Compiled.{IsCompiled}
use Rattle.bouquet_type.specs.Schedule.{Member}
use Rattle.bouquet_type.specs.Skipping.{AreExhausted}
use Rattle.bouquet_type.specs.Bounded.{IsWithinBound}
use Rattle.bouquet_type.proofs.Bound.{FitsUnskipped, bound-skipping}
use Rattle.bouquet_type.proofs.CompiledSound.{are-sound, covered-within}
use Rattle.bouquet_type.proofs.FitsBelow.{frontier-within}
use Rattle.learned_run.specs.Learning.{is_left, learned_point, points_left}
use Rattle.learned_run.specs.Skips.{covers_above, is_at_or_below, is_skipped, learned_end, skip_by}
use Rattle.learned_run.proofs.Left.{in-left}
use Rattle.learned_run.proofs.Levels.{levels-below}
use Rattle.learned_run.proofs.AtOrBelow.{below-passes}

-- where works are at most costs, executions that were exhausted leave the point
point-left : (costing : CostingTree) (work : PlanTree → ℕ) (point : List ℕ) (before : List Member) → ((p : PlanTree) → IsPlan costing.block p → work p ≤ cost_of costing p point)
    → AreExhausted costing.block work before → is_left costing before point ≡ true
point-left costing work point [] within are = refl
point-left costing work point (member ∷ more) within are =
    let IsExhausted : Member → Type 0 = λ (one : Member). IsPlan costing.block one.plan × (one.budget < work one.plan) in
    let here = All-head IsExhausted member more are in
    let past : member.budget < cost_of costing member.plan point = omega (arith, here.1, within member.plan here.0) in
    and_from _ _ (lt-ltb _ _ past) (point-left costing work point more within (All-tail IsExhausted member more are))

-- the learned point lies at or below each point that is left
learned-below : (costing : CostingTree) (before : List Member) (learned point : List ℕ) → learned_point costing before ≡ Some learned → IsIn point (points_left costing before)
    → IsPoint costing.grid point → PointBelow learned point
learned-below costing [] learned point is is_in is_point = absurd cc
learned-below costing (member ∷ more) learned point is is_in is_point =
    levels-below costing.grid (points_left costing (member ∷ more)) learned point is is_in is_point

-- a plan that covers a point of the frontier above it isn't skipped
covers-there : (costing : CostingTree) (threshold : ℕ) (p : PlanTree) (point other : List ℕ) (points : List (List ℕ)) → Contains points other → PointBelow point other
    → CoversAt costing threshold p other → covers_above costing threshold p point points ≡ true
covers-there costing threshold p point other points (place, there, at) below covers =
    let passes = and_from _ _ (below-passes point other below) covers in
    list_any_at (λ one. is_at_or_below point one && covers_at costing threshold p one) points place other there
    (ap (λ one. is_at_or_below point one && covers_at costing threshold p one) at ∙ passes)

kept : (costing : CostingTree) (threshold : ℕ) (member : Member) (other : List ℕ) (learned : Option (List ℕ)) → Contains (frontier costing member.cost) other
    → ((point : List ℕ) → learned ≡ Some point → PointBelow point other) → CoversAt costing threshold member.plan other
    → is_some (skip_by costing threshold member learned) ≡ false
kept costing threshold member other None on below covers = refl
kept costing threshold member other (Some point) on below covers =
    rw (covers-there costing threshold member.plan point other (frontier costing member.cost) on (below point refl) covers) refl

-- on a contour with the plans of greedy reduction, within whose cost the optimal cost is, one of them fits and is never skipped
fits-unskipped : (costing : CostingTree) (threshold : ℕ) (work : PlanTree → ℕ) (point : List ℕ) (plan : PlanTree) (contour : ContourTree) → IsCosting costing → IsPoint costing.grid point
    → ((p : PlanTree) → IsPlan costing.block p → work p ≤ cost_of costing p point) → IsPlan costing.block plan
    → contour.plans ≡ greedy costing threshold (frontier costing contour.cost) → optimal_cost costing point ≤ contour.cost
    → FitsUnskipped costing threshold work (is_skipped costing threshold) point contour
fits-unskipped costing threshold work point plan contour is is_point within is_plan plans optimal =
    let above = frontier-above costing contour.cost point is.grid is_point optimal in
    let other = above.0 in
    let taken = greedy-covers costing plan threshold (frontier costing contour.cost) other is_plan above.1 in
    let short = covered-within costing threshold contour.cost taken.0 other taken.2 (frontier-within costing contour.cost other above.1) in (
      taken.0,
      subst (λ all. Contains all taken.0) (sym plans) taken.1,
      omega (arith, short, cost-le costing taken.0 point other above.2),
      λ before member exhausted same_plan same_cost.
          let left = in-left costing before point is.grid is_point (point-left costing work point before within exhausted) in
          kept costing threshold member other (learned_point costing before)
          (subst (λ cost. Contains (frontier costing cost) other) (sym same_cost) above.1)
          (λ learned told. PointBelow-trans learned point other (learned-below costing before learned point told left is_point) above.2)
          (subst (λ p. CoversAt costing threshold p other) (sym same_plan) taken.2),
    )

pub learned-bound : (bouquet : BouquetTree) (work : PlanTree → ℕ) → IsCosting bouquet.costing → All (λ contour. All (IsPlan bouquet.costing.block) contour.plans) bouquet.contours
    → IsCompiled bouquet → IsWithinBound bouquet work (learned_end bouquet work).total
learned-bound bouquet work is plans compiled = λ point a b p is_point premise plan.
    let costing = bouquet.costing in
    let threshold = bouquet.threshold in
    let sound = are-sound bouquet is compiled in
    bound-skipping bouquet work (is_skipped costing threshold) point a b p plans is_point premise plan sound.first sound.doubled sound.last
    (λ k d there within.
    fits-unskipped costing threshold work point p (get_or bouquet.contours k d) is is_point premise.within plan (compiled.plans k d there) within)
