use Rattle.std.proofs.Common.{◌∙◌, map, ap, subst, sym, arith}
use Rattle.std.specs.Prelude.{All}
use Rattle.std.proofs.lemmas.List.{take_all}
use Rattle.cost_model.specs.Costing.{costing_tree}
use Rattle.plan_space.specs.SurfacePoints.{IsSurfacePoint, surface_points}
use Rattle.learned_run.specs.Covering.{bare_row}
use Rattle.learned_run.proofs.Looked.{found-bare, row_at}
use Rattle.learned_run.proofs.rows.found_rows.Goals as goal

pub returns : goal.returns
returns c =
    let costing = costing_tree c.args.surface.now in
    let points = c.as_slice-points.result.now in
    let value = c.as_slice-points.ensures.value in
    c.loop-at.invariant ∙ ap (map row_at) (take_all c.loop-at.at-index points (omega arith))
    ∙ found-bare costing points (subst (All (IsSurfacePoint costing)) (sym value) c.in_ok-frontier.ensures.each)
    ∙ ap (map (bare_row costing)) (ap surface_points value ∙ c.in_ok-frontier.ensures.points)
