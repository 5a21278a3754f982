use Rattle.std.proofs.Common.{◌≡◌, ◌∙◌, ℕ, List, ap, subst, sym}
use Rattle.std.specs.Prelude.{All}
use Rattle.ess_grid.specs.Points.{GridShape, IsPoint}
use Rattle.plan_tree.specs.Plans.{plan_tree}
use Rattle.cost_model.specs.Costing.{CostingShape, costing_tree}
use Rattle.cost_model.specs.Frontier.{frontier}
use Rattle.bouquet_type.specs.Shapes.{BouquetShape, cost_on}
use Rattle.bouquet_type.specs.Trees.{bouquet_tree}
use Rattle.learned_run.specs.Skips.{covers_above}
use Rattle.learned_run.specs.Covering.{FrontiersShape}
use Rattle.learned_run.proofs.Outlines.{outlined-points, frontier-points}
use Rattle.learned_run.proofs.Stepped.{step-cost}
use Rattle.learned_run.proofs.frontiers.Frontiers.probe.Goals as goal

pub probe_covers-requires-clause-points : goal.probe_covers-requires-clause-points
probe_covers-requires-clause-points c =
    let b = c.self.inside.bouquet.now in
    let number = c.args.step.contour in
    let points =
    outlined-points b c.args.self.now.bouquet c.in-Some.outline.now number c.index-kept.result.now c.as_slice-2.result.now (ap (λ (f : FrontiersShape). f.bouquet) c.self.view_is)
    c.in-Some.ensures c.requires.some c.requires.there c.index-kept.ensures c.as_slice-2.ensures.value in
    subst (λ (some : List (List ℕ)). All (IsPoint c.self.inside.costing.now.grid) some) (sym points)
    (subst (λ (grid : GridShape). All (IsPoint grid) (frontier (bouquet_tree b).costing (cost_on b number))) (sym (ap (λ (shape : CostingShape). shape.grid) c.self.invariant.0))
    (frontier-points (bouquet_tree b).costing (cost_on b number) c.contours.ensures.bouquet.costing.grid))

pub returns : goal.returns
returns c = λ found.
    let b = c.self.inside.bouquet.now in
    let seen = c.args.self.now.bouquet in
    let view : b ≡ seen = ap (λ (f : FrontiersShape). f.bouquet) c.self.view_is in
    let number = c.args.step.contour in
    let p = plan_tree c.args.step.plan.now in
    let point = c.args.point.now in
    let points =
    outlined-points b seen c.in-Some.outline.now number c.index-kept.result.now c.as_slice-2.result.now view
    c.in-Some.ensures c.requires.some c.requires.there c.index-kept.ensures c.as_slice-2.ensures.value in
    c.probe_covers.ensures found
    ∙ ap (λ (some : List (List ℕ)). covers_above (costing_tree c.self.inside.costing.now) c.threshold.result p point some) points
    ∙ ap (λ (shape : CostingShape). covers_above (costing_tree shape) c.threshold.result p point (frontier (bouquet_tree b).costing (cost_on b number))) c.self.invariant.0
    ∙ ap (λ (percent : ℕ). covers_above (bouquet_tree b).costing percent p point (frontier (bouquet_tree b).costing (cost_on b number))) c.threshold.ensures
    ∙ ap (λ (b : BouquetShape). covers_above (bouquet_tree b).costing b.threshold p point (frontier (bouquet_tree b).costing (cost_on b number))) view
    ∙ ap (λ (cost : ℕ). covers_above (bouquet_tree seen).costing seen.threshold p point (frontier (bouquet_tree seen).costing cost)) (step-cost seen c.args.step c.args.budget c.requires.member)
