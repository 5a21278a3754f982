-- The values don't fit, or the levels are no point, or the audit is refused, or it is told.
use Rattle.std.proofs.Common.{◌≡◌, ◌∙◌, Some, None, refl}
use Rattle.std.specs.Prelude.{Err}
use Rattle.std.proofs.lemmas.Result.{err_from_is_err_and}
use Rattle.bouquet_type.specs.Trees.{BouquetTree, bouquet_tree}
use Rattle.query_block.specs.Values.{value_fault}
use Rattle.workspace.specs.Outcome.{Refuses, refused_work}
use Rattle.workspace.specs.Present.{present_due}
use Rattle.workspace.specs.States.{world_of}
use Rattle.workspace.specs.World.{World}
use Rattle.workspace.proofs.Stopping.{stops_so}
use Rattle.session.specs.Audit.{audit_outcome, point_refusal}
use Rattle.session.proofs.Auditing.{answered, no_fit, no_point, refused}
use Rattle.session.proofs.Misfits.{fitting, misfitting}
use Rattle.session.proofs.session.Session.audit.Goals as goal

pub returns-in_err-bouquet : goal.returns-in_err-bouquet
returns-in_err-bouquet c =
    let stop = err_from_is_err_and c.from_residual.result c.from_residual.ensures.1 in
    let world : World = world_of c.self.inside.workspace in
    let audit = c.args.audit.now in
    rw (← c.self.view_is, stop.1, stop.2) (stops_so (λ found. present_due world audit.name ≡ Err found) (λ found. audit_outcome c.args.max_work world audit ≡ Refuses found) (λ found is. rw is refl) _ c.in_err-bouquet.ensures.due)

pub returns-in_err-fits_values : goal.returns-in_err-fits_values
returns-in_err-fits_values c =
    let world : World = world_of c.self.inside.workspace in
    let audit = c.args.audit.now in
    let bouquet : BouquetTree = bouquet_tree c.in_ok-bouquet.bouquet.now in
    let fault = c.in_err-fits_values.field-0.0 in
    let misfit : value_fault bouquet.costing.block.parameters audit.values ≡ Some fault =
    rw c.as_slice-values.ensures at (misfitting c.as_slice-values.result.now c.in_ok-bouquet.bouquet.now.block c.block.result.now c.block.ensures.block fault c.in_err-fits_values.ensures) in
    let stop = err_from_is_err_and c.from_residual-in_err-fits_values.result c.from_residual-in_err-fits_values.ensures.1 in
    rw (← c.self.view_is, stop.1, stop.2) (no_fit c.args.max_work world audit bouquet c.in_ok-bouquet.ensures.due fault misfit)

pub returns-in_err-point : goal.returns-in_err-point
returns-in_err-point c =
    let world : World = world_of c.self.inside.workspace in
    let audit = c.args.audit.now in
    let bouquet : BouquetTree = bouquet_tree c.in_ok-bouquet.bouquet.now in
    let fit : value_fault bouquet.costing.block.parameters audit.values ≡ None =
    rw c.as_slice-values.ensures at (fitting c.as_slice-values.result.now c.in_ok-bouquet.bouquet.now.block c.block.result.now c.block.ensures.block c.in_ok-fits_values.field-0 c.in_ok-fits_values.ensures) in
    let none : (point_refusal bouquet.costing.grid audit.levels ≡ Some c.in_err-point.field-0.0) × (refused_work c.in_err-point.field-0.0 ≡ 0) = rw (c.grid.ensures, c.as_slice.ensures) at c.in_err-point.ensures.refuses.refused in
    let stop = err_from_is_err_and c.from_residual-in_err-point.result c.from_residual-in_err-point.ensures.1 in
    rw (← c.self.view_is, stop.1, stop.2) (no_point c.args.max_work world audit bouquet c.in_ok-bouquet.ensures.due fit _ none.0 none.1)

pub returns-in-Err : goal.returns-in-Err
returns-in-Err c =
    let world : World = world_of c.self.inside.workspace in
    let audit = c.args.audit.now in
    let bouquet : BouquetTree = bouquet_tree c.in_ok-bouquet.bouquet.now in
    let fit : value_fault bouquet.costing.block.parameters audit.values ≡ None =
    rw c.as_slice-values.ensures at (fitting c.as_slice-values.result.now c.in_ok-bouquet.bouquet.now.block c.block.result.now c.block.ensures.block c.in_ok-fits_values.field-0 c.in_ok-fits_values.ensures) in
    let none : point_refusal bouquet.costing.grid audit.levels ≡ None = rw (c.grid.ensures, c.as_slice.ensures) at c.in_ok-point.ensures.refuses.answered in
    let refuses = rw (c.as_slice-values.ensures, c.database-database.ensures) at c.in-Err.ensures.refuses in
    rw (← c.self.view_is, c.stop_of.ensures) (refused c.args.max_work world audit bouquet c.in_ok-bouquet.ensures.due fit none c.in-Err.fault refuses)

pub returns-in_ok-audit_line-in-Ok : goal.returns-in_ok-audit_line-in-Ok
returns-in_ok-audit_line-in-Ok c =
    let world : World = world_of c.self.inside.workspace in
    let audit = c.args.audit.now in
    let bouquet : BouquetTree = bouquet_tree c.in_ok-bouquet.bouquet.now in
    let fit : value_fault bouquet.costing.block.parameters audit.values ≡ None =
    rw c.as_slice-values.ensures at (fitting c.as_slice-values.result.now c.in_ok-bouquet.bouquet.now.block c.block.result.now c.block.ensures.block c.in_ok-fits_values.field-0 c.in_ok-fits_values.ensures) in
    let none : point_refusal bouquet.costing.grid audit.levels ≡ None = rw (c.grid.ensures, c.as_slice.ensures) at c.in_ok-point.ensures.refuses.answered in
    let point : c.in_ok-point.point ≡ audit.levels = c.in_ok-point.ensures.point ∙ c.as_slice.ensures in
    let told = rw (c.as_slice-values.ensures, c.database-database.ensures) at c.in-Ok.ensures.audit in
    rw (← c.self.view_is)
    (answered c.args.max_work world audit bouquet c.in_ok-bouquet.ensures.due fit none c.in-Ok.told c.in_ok-point.point c.in_ok-audit_line-in-Ok.field-0.items point told c.in-Ok.ensures.few c.in-Ok.ensures.within c.in_ok-audit_line-in-Ok.ensures)
