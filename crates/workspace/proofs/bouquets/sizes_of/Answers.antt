-- The block's grid or its counts refuse its size, or nothing does.
use Rattle.std.proofs.Common.{◌≡◌, Some, None, refl, sym, ap, true≢false}
use Rattle.std.specs.Prelude.{Err}
use Rattle.std.proofs.lemmas.Result.{err_from_is_err_and}
use Rattle.query_block.specs.Blocks.{axes_of, block_tree}
use Rattle.sql_values.specs.declared.limit.LimitName.TheVariants as limit
use Rattle.workspace.specs.Bouquets.{points_refusal, product_refusal, size_refusal}
use Rattle.workspace.specs.declared.refusal.Refusal.TheVariants as refusal
use Rattle.workspace.proofs.Sizes.{counts_stop, decided, few_points, grid_stops, past_product, small_product}
use Rattle.workspace.proofs.bouquets.sizes_of.Goals as goal

pub returns-in_err-grid : goal.returns-in_err-grid
returns-in_err-grid c =
    let database = c.args.database.now in
    let block = block_tree c.args.block.now in
    let levels = c.args.levels in
    let stop = err_from_is_err_and c.from_residual.result c.from_residual.ensures.1 in
    rw (stop.1, stop.2) (grid_stops (λ found. size_refusal database block levels ≡ Some found) (axes_of block) levels c.in_err-grid.field-0.0 c.requires.levels
    (λ none. true≢false (sym (c.in_err-grid.ensures.default none))) (λ given is. (c.in_err-grid.ensures.bad_levels given).0 (ap Err is))
    (λ points is. rw (← c.axes.ensures.axes) ((c.in_err-grid.ensures.too_many_points points).0 (ap Err is)))
    (λ found is. decided database levels block (Some found) (product_refusal database block) is refl))

pub returns-in_err-stats : goal.returns-in_err-stats
returns-in_err-stats c =
    let database = c.args.database.now in
    let block = block_tree c.args.block.now in
    let few : points_refusal (axes_of block) c.args.levels ≡ None = rw (← c.axes.ensures.axes)
    (few_points c.axes.result c.args.levels c.requires.levels (λ points has. cc ((c.in_ok-grid.ensures.too_many_points points).1 has))) in
    let stop = err_from_is_err_and c.from_residual-in_err-stats.result c.from_residual-in_err-stats.ensures.1 in
    rw (stop.1, stop.2) (counts_stop (λ found. size_refusal database block c.args.levels ≡ Some found) c.in_err-stats.field-0.0
    (λ value is. decided database c.args.levels block None (Some (refusal.PastLimit limit.Product value)) few
    (past_product database block value ((c.in_err-stats.ensures.product_limit value).0 (ap Err is)))))

pub returns : goal.returns
returns c =
    let database = c.args.database.now in
    let block = block_tree c.args.block.now in
    let few : points_refusal (axes_of block) c.args.levels ≡ None = rw (← c.axes.ensures.axes)
    (few_points c.axes.result c.args.levels c.requires.levels (λ points has. cc ((c.in_ok-grid.ensures.too_many_points points).1 has))) in
    let small : product_refusal database block ≡ None = small_product database block (λ value is. cc ((c.in_ok-stats.ensures.product_limit value).1 is)) in
    record {
      unrefused = decided database c.args.levels block None None few small;
      grid = rw (← c.axes.ensures.axes) c.in_ok-grid.ensures.made;
      stats = c.in_ok-stats.ensures.counts;
      fits = c.in_ok-stats.ensures.fits;
    }
