-- The query has no block, or its block has a parameter, or its size is refused, or its compiled bouquet answers.
use Rattle.std.proofs.Common.{◌≡◌, ◌∙◌, [], map, Some, None, refl, ap, subst, sym}
use Rattle.std.specs.Prelude.{All, Ok, Err}
use Rattle.std.proofs.lemmas.Result.{err_from_is_err_and}
use Rattle.sql_parse.specs.Trees.{Select, query_tree}
use Rattle.sql_values.specs.Limits.{default_threshold}
use Rattle.query_block.specs.Shape.{BlockShape}
use Rattle.query_block.specs.Blocks.{IsBlock, IsPutOf, block_tree}
use Rattle.query_block.specs.Values.{value_fault}
use Rattle.plan_tree.specs.Enumerated.{IsPlan}
use Rattle.cost_model.specs.Costing.{costing_tree}
use Rattle.exec_pipe.proofs.Joins.{on-ok}
use Rattle.bouquet_type.specs.Compiled.{compiled}
use Rattle.bouquet_type.specs.Sound.{IsSound}
use Rattle.bouquet_type.specs.Trees.{BouquetTree}
use Rattle.workspace.specs.Bouquets.{block_due, bouquet_due, costing_over, size_refusal}
use Rattle.workspace.specs.Outcome.{Refuses}
use Rattle.workspace.specs.States.{named_of}
use Rattle.workspace.specs.World.{World}
use Rattle.session.specs.Answered.{block_answer}
use Rattle.session.specs.Returns.{ReturnsDue}
use Rattle.session.specs.Select.{select_outcome}
use Rattle.workspace.proofs.Stopping.{stops_so}
use Rattle.workspace.proofs.Sizes.{costs}
use Rattle.session.proofs.Beginning.{answers_unpaid}
use Rattle.session.proofs.Misfits.{fits, misfits}
use Rattle.session.proofs.Selecting.{fitting_due, misfit_due, on_block, own, size_due, within}
use Rattle.session.proofs.session.Session.select.Goals as goal

pub returns-in_err-block : goal.returns-in_err-block
returns-in_err-block c =
    let world : World = record { database = c.database-database.result.now; bouquets = map named_of c.self.inside.workspace.bouquets } in
    let query = query_tree c.args.query.now in
    let stop = err_from_is_err_and c.from_residual.result c.from_residual.ensures.1 in
    rw (← c.self.view_is, ← c.database-database.ensures, stop.1, stop.2) (answers_unpaid c.args.max_work world (Select query) _ c.args.book.now
    (λ file. stops_so (λ found. block_due world.database query ≡ Err found) (λ found. select_outcome c.args.max_work world query ≡ Refuses found) (λ found is. rw is refl) _ c.in_err-block.ensures.due))

pub returns-in_err-fits_values : goal.returns-in_err-fits_values
returns-in_err-fits_values c =
    let world : World = record { database = c.database-database.result.now; bouquets = map named_of c.self.inside.workspace.bouquets } in
    let query = query_tree c.args.query.now in
    let block = block_tree c.in_ok-block.block in
    let bound : block_due world.database query ≡ Ok block = c.in_ok-block.ensures.due in
    let fault = c.in_err-fits_values.field-0.0 in
    let misfit : value_fault block.parameters [] ≡ Some fault = misfits (value_fault block.parameters []) fault c.in_err-fits_values.ensures in
    let stop = err_from_is_err_and c.from_residual-in_err-fits_values.result c.from_residual-in_err-fits_values.ensures.1 in
    rw (← c.self.view_is, ← c.database-database.ensures, stop.1, stop.2) (answers_unpaid c.args.max_work world (Select query) _ c.args.book.now (λ file. (misfit_due c.args.max_work world query block bound fault misfit, refl)))

pub returns-in_err-grid : goal.returns-in_err-grid
returns-in_err-grid c =
    let world : World = record { database = c.database-database.result.now; bouquets = map named_of c.self.inside.workspace.bouquets } in
    let query = query_tree c.args.query.now in
    let block = block_tree c.in_ok-block.block in
    let bound : block_due world.database query ≡ Ok block = c.in_ok-block.ensures.due in
    let fit : value_fault block.parameters [] ≡ None = fits (value_fault block.parameters []) c.in_ok-fits_values.field-0 c.in_ok-fits_values.ensures in
    let stop = err_from_is_err_and c.from_residual-in_err-grid.result c.from_residual-in_err-grid.ensures.1 in
    rw (← c.self.view_is, ← c.database-database.ensures, stop.1, stop.2) (answers_unpaid c.args.max_work world (Select query) _ c.args.book.now
    (λ file. stops_so (λ found. size_refusal world.database block None ≡ Some found) (λ found. select_outcome c.args.max_work world query ≡ Refuses found)
    (size_due c.args.max_work world query block bound fit) _ c.in_err-grid.ensures))

pub block_answer-requires-clause-put : goal.block_answer-requires-clause-put
block_answer-requires-clause-put c =
    let database = c.database-database.result.now in
    let block = block_tree c.in_ok-block.block in
    let is : IsBlock block = subst (λ (shape : BlockShape). IsBlock (block_tree shape)) c.block.view_is c.block.invariant in
    let fit : value_fault block.parameters [] ≡ None = fits (value_fault block.parameters []) c.in_ok-fits_values.field-0 c.in_ok-fits_values.ensures in
    let same = ap costing_tree (c.in_ok-outlook.ensures ∙ c.new-costing.ensures) ∙ costs database None block c.in_ok-grid.grid c.in_ok-grid.stats c.in_ok-grid.ensures in
    let whole = c.new-ladder.ensures.whole ∙ ap (λ costing. compiled costing default_threshold) same in
    subst (λ (bouquet : BouquetTree). IsPutOf bouquet.costing.block block) (sym whole) (own database block is fit)

pub returns : goal.returns
returns c =
    let world : World = record { database = c.database-database.result.now; bouquets = map named_of c.self.inside.workspace.bouquets } in
    let query = query_tree c.args.query.now in
    let block = block_tree c.in_ok-block.block in
    let bound : block_due world.database query ≡ Ok block = c.in_ok-block.ensures.due in
    let is : IsBlock block = subst (λ (shape : BlockShape). IsBlock (block_tree shape)) c.block.view_is c.block.invariant in
    let fit : value_fault block.parameters [] ≡ None = fits (value_fault block.parameters []) c.in_ok-fits_values.field-0 c.in_ok-fits_values.ensures in
    let sizes = c.in_ok-grid.ensures in
    let same = ap costing_tree (c.in_ok-outlook.ensures ∙ c.new-costing.ensures) ∙ costs world.database None block c.in_ok-grid.grid c.in_ok-grid.stats sizes in
    let whole = c.new-ladder.ensures.whole ∙ ap (λ costing. compiled costing default_threshold) same in
    let plans = subst (λ (bouquet : BouquetTree). All (λ contour. All (IsPlan bouquet.costing.block) contour.plans) bouquet.contours) whole c.new-ladder.ensures.foot.ladder.plans in
    let sound = subst (λ costing. IsSound (compiled costing default_threshold)) same c.new-ladder.ensures.sound in
    let due = fitting_due c.args.max_work world query block bound fit sizes.unrefused ∙ on_block world.database block is fit c.args.max_work world in
    let made : bouquet_due world.database query None default_threshold ≡ Ok (compiled (costing_over world.database block None) default_threshold) = rw (bound, sizes.unrefused) refl in
    rw (← c.self.view_is, ← c.database-database.ensures) (record {
      due = λ file. rw due (subst (λ (bouquet : BouquetTree). ReturnsDue (block_answer c.args.max_work world bouquet block) c.block_answer.result world c.args.book.now c.block_answer.new.book)
          whole (rw (← c.database-database.ensures) at c.block_answer.ensures.due));
      bounded = rw made (on-ok c.block_answer.result (sound, within world.database block is fit plans sound));
      pays = c.block_answer.ensures.pays;
    })
