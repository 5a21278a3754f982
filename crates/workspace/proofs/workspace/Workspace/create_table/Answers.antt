-- A database with a table more is grown; or the fault is told.
use Rattle.std.proofs.Common.{◌≡◌, ◌≢◌, refl}
use Rattle.std.proofs.lemmas.Result.{err_from_is_err_and}
use Rattle.db_catalog.specs.declared.fault.DbFault.TheVariants as change
use Rattle.workspace.specs.CreateTable.{create_table_outcome}
use Rattle.workspace.specs.Outcome.{Refuses}
use Rattle.workspace.specs.States.{world_of}
use Rattle.workspace.specs.World.{World}
use Rattle.workspace.specs.contracts.workspace.Workspace.{the_view}
use Rattle.workspace.specs.declared.refusal.Refusal.TheVariants as refusal
use Rattle.workspace.proofs.Stopping.{told_free}
use Rattle.db_catalog.specs.Database.{new_table, with_table}
use Rattle.db_catalog.proofs.Growth.{fits_with_table}
use Rattle.workspace.proofs.Counting.{grows_with_table}
use Rattle.workspace.proofs.Growing.{is_grown}
use Rattle.workspace.proofs.workspace.Workspace.create_table.Goals as goal

pub invariant_of-self-2 : goal.invariant_of-self-2
invariant_of-self-2 c =
    let database = c.self.inside.database in
    let table = new_table c.args.table.now.name c.args.table.now.columns in
    is_grown database c.create_table.new.self (with_table database table) c.self.inside.bouquets (rw (← c.bytes.ensures, ← c.as_slice.ensures) c.in_ok-create_table.ensures.created.made) (fits_with_table database table) (grows_with_table database table) c.self.invariant

pub returns-in_err-create_table-clause-due : goal.returns-in_err-create_table-clause-due
returns-in_err-create_table-clause-due c =
    let world : World = world_of (the_view c.self.inside) in
    let fault = c.in_err-create_table.field-0.0 in
    let refused : fault ≢ change.NoMemory → create_table_outcome world c.args.table.now ≡ Refuses (refusal.NotMade fault) = λ told.
    rw (rw (c.bytes.ensures, c.as_slice.ensures) at (c.in_err-create_table.ensures.refuses.refused told)) refl in
    let stop = err_from_is_err_and c.from_residual.result c.from_residual.ensures.1 in
    rw (← c.self.view_is, stop.1) (told_free (λ found. create_table_outcome world c.args.table.now ≡ Refuses found) change.NoMemory refusal.NotMade fault stop.0 stop.2 refused refl)
