-- The bouquet isn't present, or its values don't fit, or it is used with them.
use Rattle.std.proofs.Common.{◌≡◌, ◌∙◌, ℕ, List, Option, Some, None, ap, subst, sym, refl}
use Rattle.std.specs.Prelude.{Ok, Err, option_map}
use Rattle.std.proofs.lemmas.Result.{err_from_is_err_and}
use Rattle.query_block.specs.Blocks.{BlockTree, block_tree, put_of}
use Rattle.query_block.specs.Values.{value_fault}
use Rattle.db_catalog.specs.Fits.{Fits}
use Rattle.db_catalog.proofs.PutBlocks.{put-fits-tables}
use Rattle.bouquet_type.specs.Trees.{BouquetTree, bouquet_tree}
use Rattle.bouquet_type.proofs.CompiledSound.{are-sound}
use Rattle.bouquet_type.proofs.Meets.{bouquet-bound, plans-of-bouquet}
use Rattle.bouquet_run.specs.Outcomes.{works_over}
use Rattle.learned_run.proofs.Unskipped.{learned-bound}
use Rattle.cost_model.specs.declared.stale.Stale.{Stale}
use Rattle.sql_values.specs.Steps.{Checked, pure, need, ◌>>=◌, ◌>>◌}
use Rattle.workspace.specs.Outcome.{unless}
use Rattle.workspace.specs.Present.{present_due, stale_count}
use Rattle.workspace.specs.States.{world_of}
use Rattle.workspace.specs.World.{World, NamedBouquet, bouquet_in, named_in}
use Rattle.workspace.specs.declared.refusal.Refusal.{Refusal}
use Rattle.workspace.specs.declared.refusal.Refusal.TheVariants as refusal
use Rattle.workspace.proofs.Stopping.{stops_so}
use Rattle.session.specs.Bounds.{LearnsWithinBound, RunsWithinBound}
use Rattle.session.specs.Answered.{used_due}
use Rattle.session.proofs.Misfits.{fitting, misfitting}
use Rattle.session.proofs.session.Session.used.Goals as goal

-- a bouquet that is due has the name
fresh-due : (one bouquet : BouquetTree) (stale : Option Stale) → (unless refusal.IsStale stale >> pure one) ≡ Ok bouquet → one ≡ bouquet
fresh-due one bouquet None is = cc is
fresh-due one bouquet (Some stale) is = cc is

abbrev due_of : World → (name : List ℕ) → Option NamedBouquet → Checked Refusal BouquetTree
due_of world name found = do
  named ← need (refusal.NoBouquet name) found
  unless refusal.IsStale (stale_count world.database named.bouquet)
  pure named.bouquet

named-due : (world : World) (name : List ℕ) (bouquet : BouquetTree) (found : Option NamedBouquet) → due_of world name found ≡ Ok bouquet → option_map (λ (named : NamedBouquet). named.bouquet) found ≡ Some bouquet
named-due world name bouquet None is = cc is
named-due world name bouquet (Some named) is = ap Some (fresh-due named.bouquet bouquet (stale_count world.database named.bouquet) is)

pub returns-in_err-bouquet-clause-due : goal.returns-in_err-bouquet-clause-due
returns-in_err-bouquet-clause-due c =
    let world : World = world_of c.self.inside.workspace in
    let run = c.args.run.now in
    let stop = err_from_is_err_and c.from_residual.result c.from_residual.ensures.1 in
    rw (← c.self.view_is, stop.1, stop.2) (stops_so (λ found. present_due world run.name ≡ Err found) (λ found. used_due world run.name run.values ≡ Err found) (λ found is. rw is refl) _ c.in_err-bouquet.ensures.due)

pub returns-in_err-fits_values-clause-due : goal.returns-in_err-fits_values-clause-due
returns-in_err-fits_values-clause-due c =
    let run = c.args.run.now in
    let bouquet : BouquetTree = bouquet_tree c.in_ok-bouquet.bouquet.now in
    let fault = c.in_err-fits_values.field-0.0 in
    let misfit : value_fault bouquet.costing.block.parameters run.values ≡ Some fault =
    rw c.as_slice-values.ensures at (misfitting c.as_slice-values.result.now c.in_ok-bouquet.bouquet.now.block c.block.result.now c.block.ensures.block fault c.in_err-fits_values.ensures) in
    let stop = err_from_is_err_and c.from_residual-in_err-fits_values.result c.from_residual-in_err-fits_values.ensures.1 in
    rw (← c.self.view_is, stop.1, stop.2, c.in_ok-bouquet.ensures.due, misfit) (refl, refl)

pub returns-clause-due : goal.returns-clause-due
returns-clause-due c =
    let run = c.args.run.now in
    let shape = c.in_ok-bouquet.bouquet.now in
    let bouquet : BouquetTree = bouquet_tree shape in
    let fit : value_fault bouquet.costing.block.parameters run.values ≡ None =
    rw c.as_slice-values.ensures at (fitting c.as_slice-values.result.now shape.block c.block.result.now c.block.ensures.block c.in_ok-fits_values.field-0 c.in_ok-fits_values.ensures) in
    let put : block_tree c.in_ok-block.block ≡ put_of run.values bouquet.costing.block =
    c.in_ok-block.ensures ∙ (λ i. put_of (c.as_slice-values.ensures i) (block_tree (c.block-2.ensures.block i))) in
    rw (← c.self.view_is, c.in_ok-bouquet.ensures.due, fit) (ap (λ (block : BlockTree). Ok (bouquet, block)) (sym put))

pub returns-clause-used : goal.returns-clause-used
returns-clause-used c =
    let world : World = world_of c.self.inside.workspace in
    let run = c.args.run.now in
    let shape = c.in_ok-bouquet.bouquet.now in
    let bouquet : BouquetTree = bouquet_tree shape in
    let fit : value_fault bouquet.costing.block.parameters run.values ≡ None =
    rw c.as_slice-values.ensures at (fitting c.as_slice-values.result.now shape.block c.block.result.now c.block.ensures.block c.in_ok-fits_values.field-0 c.in_ok-fits_values.ensures) in
    let block : BlockTree = block_tree c.in_ok-block.block in
    let put : block ≡ put_of run.values bouquet.costing.block =
    c.in_ok-block.ensures ∙ (λ i. put_of (c.as_slice-values.ensures i) (block_tree (c.block-2.ensures.block i))) in
    let work = works_over world.database (put_of run.values bouquet.costing.block) in
    let within : RunsWithinBound world.database run.values bouquet = record {
      counts = c.in_ok-bouquet.ensures.counts;
      bound = bouquet-bound shape c.block.ensures.bouquet work;
      sound = are-sound bouquet c.block.ensures.bouquet.costing;
    } in
    let learns : LearnsWithinBound world.database run.values bouquet = record {
      counts = c.in_ok-bouquet.ensures.counts;
      bound = learned-bound bouquet work c.block.ensures.bouquet.costing (plans-of-bouquet shape c.block.ensures.bouquet);
    } in
    let named : bouquet_in run.name world.bouquets ≡ Some bouquet = named-due world run.name bouquet (named_in run.name world.bouquets) c.in_ok-bouquet.ensures.due in
    rw (← c.self.view_is) (record {
      usable = record {
        put = record { values = run.values; fit = fit; is = put };
        fits = subst (Fits world.database) (sym put) (put-fits-tables world.database run.values bouquet.costing.block c.in_ok-bouquet.ensures.fits);
      };
      within = rw named within;
      learns = rw named learns;
    })
