-- The file is refused, or its bouquet is kept.
use Rattle.std.proofs.Common.{◌≡◌, refl}
use Rattle.std.proofs.lemmas.Result.{err_from_is_err_and}
use Rattle.workspace.specs.Open.{open_with}
use Rattle.query_block.specs.Blocks.{block_tree}
use Rattle.workspace.specs.States.{world_of}
use Rattle.workspace.specs.World.{World}
use Rattle.bouquet_file.specs.declared.fault.OpenFault.TheVariants as fault
use Rattle.workspace.specs.Outcome.{Refuses}
use Rattle.workspace.specs.declared.refusal.Refusal.TheVariants as refusal
use Rattle.workspace.proofs.Stopping.{told_free}
use Rattle.workspace.proofs.workspace.Workspace.open_bytes.Goals as goal

pub returns-in_err-bouquet-clause-due : goal.returns-in_err-bouquet-clause-due
returns-in_err-bouquet-clause-due c =
    let world : World = world_of c.args.self.now in
    let opening = c.args.opening in
    let stop = err_from_is_err_and c.from_residual.result c.from_residual.ensures.1 in
    let opened = rw c.deref.ensures.value at c.in_err-bouquet.ensures.opened in
    rw stop.1 (told_free (λ found. open_with world opening.name opening.query.items (block_tree opening.block) opening.stats c.args.bytes.now ≡ Refuses found) fault.NoMemory refusal.NotOpened c.in_err-bouquet.field-0.0 stop.0 stop.2
    (λ other. rw (opened other) refl) refl)

pub returns-clause-due : goal.returns-clause-due
returns-clause-due c =
    let world : World = world_of c.args.self.now in
    let opening = c.args.opening in
    rw (rw c.deref.ensures.value at c.in_ok-bouquet.ensures.opened) c.keep.ensures.kept
