-- The size of the block refuses it, or it is compiled.
use Rattle.std.proofs.Common.{◌≡◌, ◌∙◌, Some, refl, sym, ap}
use Rattle.std.specs.Prelude.{Ok, Err}
use Rattle.std.proofs.lemmas.Result.{err_from_is_err_and}
use Rattle.query_block.specs.Blocks.{block_tree}
use Rattle.bouquet_type.specs.Compiled.{compiled}
use Rattle.workspace.specs.Bouquets.{compiled_due, size_refusal}
use Rattle.workspace.proofs.Stopping.{stops_so}
use Rattle.workspace.proofs.Sizes.{costs}
use Rattle.workspace.proofs.bouquets.compiled_of.Goals as goal

pub returns-in_err-grid-clause-due : goal.returns-in_err-grid-clause-due
returns-in_err-grid-clause-due c =
    let database = c.args.database.now in
    let block = block_tree c.args.block in
    let levels = c.args.levels in
    let stop = err_from_is_err_and c.from_residual.result c.from_residual.ensures.1 in
    rw (stop.1, stop.2) (stops_so (λ found. size_refusal database block levels ≡ Some found) (λ found. compiled_due database levels c.args.threshold block ≡ Err found)
    (λ found is. rw is refl) _ c.in_err-grid.ensures)

pub returns-clause-due : goal.returns-clause-due
returns-clause-due c =
    let database = c.args.database.now in
    let block = block_tree c.args.block in
    let same = costs database c.args.levels block c.in_ok-grid.grid c.in_ok-grid.stats c.in_ok-grid.ensures in
    rw c.in_ok-grid.ensures.unrefused (ap (λ costing. Ok (compiled costing c.args.threshold)) (sym same) ∙ ap Ok (sym c.in_ok-compile.ensures.whole))
