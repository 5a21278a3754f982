use Rattle.std.proofs.Common.{◌∙◌, option_map, refl, ap}
use Rattle.ess_grid.specs.Points.{GridShape}
use Rattle.bouquet_file.specs.Checks.{levels_within}
use Rattle.bouquet_file.proofs.Grids.{grid-levels}
use Rattle.bouquet_file.proofs.parts.grid_in.Goals as goal

pub returns-clause-levels : goal.returns-clause-levels
returns-clause-levels c =
    let made : GridShape = record { axes = c.args.axes; levels = c.in_ok-levels.levels } in
    ap (option_map (λ (grid : GridShape). grid.levels)) c.ok.ensures.value
    ∙ grid-levels (λ (grid : GridShape). grid.levels) made c.args.axes c.in_ok-levels.levels c.new.result c.new.ensures.made refl
    c.new.ensures.bad_levels c.new.ensures.too_many_points c.in_ok-levels.ensures.least c.in_ok-levels.ensures.most
    ∙ ap (levels_within c.args.axes) c.in_ok-levels.ensures.value
