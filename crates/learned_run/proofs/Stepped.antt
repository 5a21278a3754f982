-- Whether an execution is skipped, by the rows of its contour's frontier.
use Rattle.std.proofs.Common.{◌≡◌, ◌∙◌, ℕ, ◌-◌, ◌≤◌, ◌<◌, List, length, map, get_or, refl, ap, ap₂, sym, subst, arith}
use Rattle.std.specs.Prelude.{All, IfSome, Option, Some, slice_get, slice_index}
use Rattle.std.proofs.lemmas.List.{length-map, get_or-map, map-id}
use Rattle.std.proofs.lemmas.Option.{IfSome_then, slice_get_within, slice_get-get_or, get_or_from_slice_get}
use Rattle.plan_tree.specs.Plans.{PlanTree, Scan, plan_tree}
use Rattle.cost_model.specs.Costing.{CostingTree, costing_tree}
use Rattle.cost_model.specs.Frontier.{frontier}
use Rattle.plan_space.specs.Parts.{nth_plan}
use Rattle.bouquet_type.specs.declared.contour.Contour.{Contour}
use Rattle.bouquet_type.specs.declared.schedule.Attempt.{Attempt}
use Rattle.bouquet_type.specs.Shapes.{BouquetShape, cost_on}
use Rattle.bouquet_type.specs.Trees.{BouquetTree, ContourTree, IsBouquet, bouquet_tree, contour_tree}
use Rattle.learned_run.specs.declared.rows.FrontierRow.{FrontierRow}
use Rattle.learned_run.specs.Skips.{covers_above}
use Rattle.learned_run.specs.Covering.{AreAtHand, AreOfContour, IsMemberOf, IsTriedRow, TriedShape, bare_row, costing_shape, member_of}
use Rattle.learned_run.proofs.Looked.{bare-each, bare-points, row_points}
use Rattle.learned_run.proofs.Outlines.{by-costs, frontier-points}

-- the plans of a contour that was come to, and the rows of its frontier
pub at-hand : (b : BouquetShape) (number : ℕ) (contours : List Contour) (held : Contour) (tried : TriedShape) (rows : List FrontierRow) → IsBouquet b → contours ≡ b.contours
    → held ≡ get_or contours (number - 1) held → 1 ≤ number → number ≤ length b.contours
    → tried ≡ record { costing = costing_shape b; plans = map plan_tree held.plans.items; threshold = b.threshold }
    → rows ≡ map (bare_row (bouquet_tree b).costing) (frontier (bouquet_tree b).costing (cost_on b number)) → AreAtHand (bouquet_tree b) number (Some tried) rows
at-hand b number contours held tried rows bouquet same at some there is bare =
    let costing = (bouquet_tree b).costing in
    let made : TriedShape = record { costing = costing_shape b; plans = map plan_tree held.plans.items; threshold = b.threshold } in
    let points = frontier costing (cost_on b number) in
    let inside : number - 1 < length contours = omega (arith, some, there, ap length same) in
    let cost : cost_on b number ≡ held.cost =
    ap (λ (all : List Contour). slice_index (map (λ (contour : Contour). contour.cost) all) (number - 1)) (sym same)
    ∙ get_or-map (λ (contour : Contour). contour.cost) contours (number - 1) held 0 inside ∙ ap (λ (contour : Contour). contour.cost) (sym at) in
    let trees = map contour_tree contours in
    let listed : slice_get (map contour_tree b.contours) (number - 1) ≡ Some (contour_tree held) =
    ap (λ (all : List Contour). slice_get (map contour_tree all) (number - 1)) (sym same)
    ∙ slice_get-get_or trees (number - 1) (contour_tree held) (omega (arith, inside, length-map contours contour_tree))
    ∙ ap Some (get_or-map contour_tree contours (number - 1) held (contour_tree held) inside ∙ ap contour_tree (sym at)) in
    subst (λ (one : TriedShape). AreAtHand (bouquet_tree b) number (Some one) rows) (sym is) (
      subst (All (IsTriedRow made)) (sym bare) (bare-each made points (frontier-points costing (cost_on b number) bouquet.costing.grid)),
      subst (λ (contour : Option ContourTree). IfSome contour (AreOfContour (bouquet_tree b) made rows)) (sym listed)
          (record { costing = refl; threshold = refl; plans = refl; points = ap row_points bare ∙ bare-points costing points ∙ ap (frontier costing) cost }),
    )

-- the same, where rows were looked at
pub at-hand-still : (bouquet : BouquetTree) (number : ℕ) (old new : TriedShape) (rows looked : List FrontierRow) → AreAtHand bouquet number (Some old) rows → new ≡ old
    → All (IsTriedRow old) looked → row_points looked ≡ row_points rows → AreAtHand bouquet number (Some new) looked
at-hand-still bouquet number old new rows looked are same each points =
    subst (λ (one : TriedShape). AreAtHand bouquet number (Some one) looked) (sym same) (
      each,
      IfSome_then (slice_get bouquet.contours (number - 1)) are.1
          (λ contour those. record { costing = those.costing; threshold = those.threshold; plans = those.plans; points = points ∙ those.points }),
    )

-- there is such a contour
pub step-there : (b : BouquetShape) (step : Attempt) (budget : ℕ) → IsMemberOf (bouquet_tree b) (member_of step budget) → step.contour ≤ length b.contours
step-there b step budget is =
    let trees = map contour_tree b.contours in
    omega (arith, is.numbered.0, slice_get_within trees (step.contour - 1) is.contour is.numbered.1, length-map b.contours contour_tree)

-- it costs what is told
pub step-cost : (b : BouquetShape) (step : Attempt) (budget : ℕ) → IsMemberOf (bouquet_tree b) (member_of step budget) → cost_on b step.contour ≡ step.cost
step-cost b step budget is =
    let trees = map contour_tree b.contours in
    let place = step.contour - 1 in
    let inside = slice_get_within trees place is.contour is.numbered.1 in
    ap (λ (costs : List ℕ). slice_index costs place) (sym (by-costs (λ cost. cost) b.contours ∙ map-id (map (λ (contour : Contour). contour.cost) b.contours)))
    ∙ get_or-map (λ (contour : ContourTree). contour.cost) trees place is.contour 0 inside
    ∙ ap (λ (contour : ContourTree). contour.cost) (get_or_from_slice_get trees place is.contour is.contour is.numbered.1)
    ∙ sym is.cost

module _ (bouquet : BouquetTree) (step : Attempt) (budget number : ℕ) (tried : TriedShape) (rows : List FrontierRow) (is : IsMemberOf bouquet (member_of step budget)) (at : number ≡ step.contour)
    (are : AreAtHand bouquet number (Some tried) rows) where
  of-contour : AreOfContour bouquet tried rows is.contour
  of-contour = subst (λ (contour : Option ContourTree). IfSome contour (AreOfContour bouquet tried rows)) (ap (λ n. slice_get bouquet.contours (n - 1)) at ∙ is.numbered.1) are.1

  listed : slice_get tried.plans (step.place - 1) ≡ Some (plan_tree step.plan.now)
  listed = ap (λ (all : List PlanTree). slice_get all (step.place - 1)) of-contour.plans ∙ is.plan

  -- the step's plan is one of those
  pub step-among : step.place - 1 < length tried.plans
  step-among = slice_get_within tried.plans (step.place - 1) (plan_tree step.plan.now) listed

  -- and whether it covers is told of the contour's frontier
  pub step-covers : (point : List ℕ) → covers_above (costing_tree tried.costing) tried.threshold (nth_plan tried.plans (step.place - 1)) point (row_points rows)
      ≡ covers_above bouquet.costing bouquet.threshold (plan_tree step.plan.now) point (frontier bouquet.costing step.cost)
  step-covers point =
      let p = plan_tree step.plan.now in
      let plan : nth_plan tried.plans (step.place - 1) ≡ p = get_or_from_slice_get tried.plans (step.place - 1) p (Scan 0) listed in
      ap₂ (λ (one : PlanTree) (points : List (List ℕ)). covers_above (costing_tree tried.costing) tried.threshold one point points) plan
      (of-contour.points ∙ ap (frontier bouquet.costing) (sym is.cost))
      ∙ ap₂ (λ (costing : CostingTree) (percent : ℕ). covers_above costing percent p point (frontier bouquet.costing step.cost)) of-contour.costing of-contour.threshold
