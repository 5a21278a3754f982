-- A database with rows more is grown; or the fault is told.
use Rattle.std.proofs.Common.{◌≡◌, refl}
use Rattle.std.proofs.lemmas.Result.{err_from_is_err_and}
use Rattle.csv_load.specs.declared.fault.LoadFault.TheVariants as load
use Rattle.workspace.specs.Load.{load_bytes}
use Rattle.workspace.specs.Outcome.{Refuses}
use Rattle.workspace.specs.States.{world_of}
use Rattle.workspace.specs.World.{World}
use Rattle.workspace.specs.contracts.workspace.Workspace.{the_view}
use Rattle.workspace.specs.declared.refusal.Refusal.TheVariants as refusal
use Rattle.workspace.proofs.Stopping.{told_free}
use Rattle.workspace.proofs.Growing.{is_loaded}
use Rattle.workspace.proofs.workspace.Workspace.load_bytes.Goals as goal

pub invariant_of-self-2 : goal.invariant_of-self-2
invariant_of-self-2 c =
    is_loaded c.self.inside.database c.load_file.new.db c.args.table c.in_ok-rows.rows c.self.inside.bouquets _ c.in_ok-rows.ensures.loaded c.self.invariant

pub returns-in_err-rows-clause-due : goal.returns-in_err-rows-clause-due
returns-in_err-rows-clause-due c =
    let world : World = world_of (the_view c.self.inside) in
    let stop = err_from_is_err_and c.from_residual-in_err-rows.result c.from_residual-in_err-rows.ensures.1 in
    rw (← c.self.view_is, stop.1) (told_free (λ found. load_bytes world c.args.table c.args.bytes.items ≡ Refuses found) load.NoMemory refusal.NotLoaded c.in_err-rows.field-0.0 stop.0 stop.2
    (λ other. rw (c.in_err-rows.ensures.refused other) refl) refl)
