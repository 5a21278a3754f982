-- Which plans of a contour cover which points of its frontier; and the members of a schedule, by their places.
use Rattle.std.specs.Prelude.{◌≡◌, ℕ, ◌-◌, ◌≤◌, Bool, All, IfSome, List, Option, Some, None, map, slice_get}
use Rattle.ess_grid.specs.Points.{IsPoint}
use Rattle.plan_tree.specs.Plans.{PlanTree, plan_tree}
use Rattle.cost_model.specs.Costing.{CostingShape, CostingTree, costing_tree}
use Rattle.cost_model.specs.Frontier.{frontier}
use Rattle.cost_model.specs.Greedy.{covers_at}
use Rattle.cost_model.specs.Optimal.{optimal_cost}
use Rattle.plan_space.specs.Parts.{nth_plan}
use Rattle.bouquet_type.specs.Trees.{BouquetTree, ContourTree}
use Rattle.bouquet_type.specs.Shapes.{BouquetShape}
use Rattle.bouquet_type.specs.Schedule.{Member}
use Rattle.bouquet_type.specs.declared.schedule.Attempt.{Attempt}
use Rattle.learned_run.specs.declared.rows.FrontierRow.{FrontierRow}
use Rattle.learned_run.specs.Skips.{skip_by}

-- plans of a costing, which may cost so many percent more than the best one where they cover
pub record TriedShape : Type 0 where
  pub costing : CostingShape
  pub plans : List PlanTree
  pub threshold : ℕ

-- a point of a contour's frontier with the optimal cost there; and which of the plans cover it, if that is worked out
pub record IsTriedRow (tried : TriedShape) (row : FrontierRow) : Type 0 where
  pub point : IsPoint tried.costing.grid row.point
  pub cost : row.cost ≡ optimal_cost (costing_tree tried.costing) row.point
  pub covers : IfSome row.covers (λ covers. covers.items ≡ map (λ p. covers_at (costing_tree tried.costing) tried.threshold p row.point) tried.plans)

-- the row of a point while nothing is worked out
abbrev pub bare_row : CostingTree → (point : List ℕ) → FrontierRow
bare_row costing point = record { point = point; cost = optimal_cost costing point; covers = None }

-- whether the plan at this place covers a point
abbrev pub covers_point : TriedShape → (place : ℕ) → (point : List ℕ) → Bool
covers_point tried place point = covers_at (costing_tree tried.costing) tried.threshold (nth_plan tried.plans place) point

-- plans are those of a contour, and rows those of its frontier
pub record AreOfContour (bouquet : BouquetTree) (tried : TriedShape) (rows : List FrontierRow) (contour : ContourTree) : Type 0 where
  pub costing : costing_tree tried.costing ≡ bouquet.costing
  pub threshold : tried.threshold ≡ bouquet.threshold
  pub plans : tried.plans ≡ contour.plans
  pub points : map (λ row. row.point) rows ≡ frontier bouquet.costing contour.cost

-- plans and rows are those of the contour of this number; 0 where there are none yet
abbrev pub AreAtHand : BouquetTree → (number : ℕ) → Option TriedShape → List FrontierRow → Type 0
AreAtHand bouquet number None rows = number ≡ 0
AreAtHand bouquet number (Some tried) rows =
    All (IsTriedRow tried) rows × IfSome (slice_get bouquet.contours (number - 1)) (AreOfContour bouquet tried rows)

-- a member is the plan at its place on a contour of the bouquet, of its cost
pub record IsMemberOf (bouquet : BouquetTree) (member : Member) : Type 0 where
  pub contour : ContourTree
  pub numbered : (1 ≤ member.contour) × (slice_get bouquet.contours (member.contour - 1) ≡ Some contour)
  pub cost : member.cost ≡ contour.cost
  pub some : 1 ≤ member.place
  pub plan : slice_get contour.plans (member.place - 1) ≡ Some member.plan

-- the member that is executed, under this budget
abbrev pub member_of : Attempt → (budget : ℕ) → Member
member_of step budget =
    record { plan = plan_tree step.plan.now; budget = budget; contour = step.contour; place = step.place; cost = step.cost }

-- by which point it is skipped
abbrev pub step_skip : BouquetTree → Attempt → (learned : Option (List ℕ)) → (budget : Option ℕ) → Option (List ℕ)
step_skip bouquet step learned None = None
step_skip bouquet step learned (Some budget) = skip_by bouquet.costing bouquet.threshold (member_of step budget) learned

-- what the plans of a bouquet cost by
abbrev pub costing_shape : BouquetShape → CostingShape
costing_shape bouquet = record { block = bouquet.block; stats = bouquet.stats; grid = bouquet.grid }

-- a bouquet, and the number of the contour at hand, from 1; 0 if none is
pub record FrontiersShape : Type 0 where
  pub bouquet : BouquetShape
  pub number : ℕ
