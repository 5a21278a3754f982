-- A database with an index more is grown; or the fault is told.
use Rattle.std.proofs.Common.{◌≡◌, ◌≢◌, ◌∙◌, Some, ap, refl, sym}
use Rattle.std.proofs.lemmas.Result.{err_from_is_err_and}
use Rattle.db_catalog.specs.Database.{DatabaseState, table_at, table_number, with_index}
use Rattle.db_catalog.specs.Refused.{index_fault}
use Rattle.db_catalog.specs.declared.fault.DbFault.{DbFault}
use Rattle.db_catalog.specs.declared.fault.DbFault.TheVariants as change
use Rattle.db_catalog.proofs.Growth.{fits_with_index}
use Rattle.workspace.specs.CreateIndex.{column_number, create_index_outcome}
use Rattle.workspace.specs.Outcome.{Refuses}
use Rattle.workspace.specs.States.{world_of}
use Rattle.workspace.specs.World.{World}
use Rattle.workspace.specs.contracts.workspace.Workspace.{the_view}
use Rattle.workspace.specs.declared.refusal.Refusal.TheVariants as refusal
use Rattle.workspace.proofs.Counting.{grows_with_index}
use Rattle.workspace.proofs.Growing.{is_grown}
use Rattle.workspace.proofs.Stopping.{told_free}
use Rattle.workspace.proofs.workspace.Workspace.create_index.Goals as goal

pub invariant_of-self-2 : goal.invariant_of-self-2
invariant_of-self-2 c =
    let database = c.self.inside.database in
    let table = c.in-Some.table in
    let column = c.in-Some-column_of.column in
    is_grown database c.create_index.new.self (with_index database c.bytes-2.result.now table column) c.self.inside.bouquets c.in_ok-create_index.ensures.created.made
    (fits_with_index database c.bytes-2.result.now table column) (grows_with_index database c.bytes-2.result.now table column) c.self.invariant

pub returns-in_err-create_index-clause-due : goal.returns-in_err-create_index-clause-due
returns-in_err-create_index-clause-due c =
    let index = c.args.index.now in
    let database : DatabaseState = c.self.inside.database in
    let world : World = world_of (the_view c.self.inside) in
    let fault : DbFault = c.in_err-create_index.field-0.0 in
    let table : table_number database index.table ≡ Some c.in-Some.table =
    ap (table_number database) (sym c.bytes.ensures) ∙ sym c.table_of.ensures ∙ c.in-Some.is in
    let column : column_number (table_at database c.in-Some.table).columns index.column ≡ Some c.in-Some-column_of.column =
    ap (λ columns. column_number columns index.column) (sym c.columns.ensures.columns) ∙ sym c.column_of.ensures.number ∙ c.in-Some-column_of.is in
    let refused : fault ≢ change.NoMemory → create_index_outcome world index ≡ Refuses (refusal.NotMade fault) = λ told.
    let found : index_fault database index.name c.in-Some.table c.in-Some-column_of.column ≡ Some fault =
    ap (λ name. index_fault database name c.in-Some.table c.in-Some-column_of.column) (sym c.bytes-2.ensures) ∙ c.in_err-create_index.ensures.refuses.refused told in
    rw (table, column, found) refl in
    let stop = err_from_is_err_and c.from_residual.result c.from_residual.ensures.1 in
    rw (← c.self.view_is, stop.1) (told_free (λ found. create_index_outcome world index ≡ Refuses found) change.NoMemory refusal.NotMade fault stop.0 stop.2 refused refl)
