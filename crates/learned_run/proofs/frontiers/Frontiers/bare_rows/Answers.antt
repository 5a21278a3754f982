use Rattle.std.proofs.Common.{◌≡◌, ℕ, List, map, ap, subst, sym}
use Rattle.std.specs.Prelude.{All, IfOk}
use Rattle.ess_grid.specs.Points.{GridShape, IsPoint}
use Rattle.cost_model.specs.Costing.{CostingShape, costing_tree}
use Rattle.cost_model.specs.Frontier.{frontier}
use Rattle.bouquet_type.specs.Shapes.{BouquetShape, cost_on}
use Rattle.bouquet_type.specs.Trees.{bouquet_tree}
use Rattle.learned_run.specs.Covering.{FrontiersShape, bare_row}
use Rattle.learned_run.proofs.Outlines.{outlined-points, frontier-points}
use Rattle.learned_run.proofs.frontiers.Frontiers.bare_rows.Goals as goal

pub kept_rows-requires-clause-points : goal.kept_rows-requires-clause-points
kept_rows-requires-clause-points c =
    let b = c.self.inside.bouquet.now in
    let points =
    outlined-points b c.args.self.now.bouquet c.in-Some.outline.now c.args.number c.index-points.result.now c.as_slice-in-Some.result.now (ap (λ (f : FrontiersShape). f.bouquet) c.self.view_is)
    c.in-Some.ensures c.requires.some c.requires.there c.index-points.ensures c.as_slice-in-Some.ensures.value in
    subst (λ (some : List (List ℕ)). All (IsPoint c.self.inside.costing.now.grid) some) (sym points)
    (subst (λ (grid : GridShape). All (IsPoint grid) (frontier (bouquet_tree b).costing (cost_on b c.args.number))) (sym (ap (λ (shape : CostingShape). shape.grid) c.self.invariant.0))
    (frontier-points (bouquet_tree b).costing (cost_on b c.args.number) c.contours.ensures.bouquet.costing.grid))

pub returns-in-Some-clause-rows : goal.returns-in-Some-clause-rows
returns-in-Some-clause-rows c =
    let b = c.self.inside.bouquet.now in
    let points =
    outlined-points b c.args.self.now.bouquet c.in-Some.outline.now c.args.number c.index-points.result.now c.as_slice-in-Some.result.now (ap (λ (f : FrontiersShape). f.bouquet) c.self.view_is)
    c.in-Some.ensures c.requires.some c.requires.there c.index-points.ensures c.as_slice-in-Some.ensures.value in
    let front : BouquetShape → List (List ℕ) = λ b. frontier (bouquet_tree b).costing (cost_on b c.args.number) in
    subst (λ (b : BouquetShape). IfOk c.kept_rows.result (λ rows. rows.items ≡ map (bare_row (bouquet_tree b).costing) (front b))) (ap (λ (f : FrontiersShape). f.bouquet) c.self.view_is)
    (subst (λ (shape : CostingShape). IfOk c.kept_rows.result (λ rows. rows.items ≡ map (bare_row (costing_tree shape)) (front b))) c.self.invariant.0
    (subst (λ (some : List (List ℕ)). IfOk c.kept_rows.result (λ rows. rows.items ≡ map (bare_row (costing_tree c.self.inside.costing.now)) some)) points c.kept_rows.ensures))
