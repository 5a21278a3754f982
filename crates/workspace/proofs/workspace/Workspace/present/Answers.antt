-- The bouquet of the name is there or not, and its counts are those of the tables or not.
use Rattle.std.proofs.Common.{◌≡◌, Some, None, ap, ℕ, List, refl}
use Rattle.std.specs.Prelude.{is_some, Err}
use Rattle.std.proofs.lemmas.Result.{err_from_is_err_and}
use Rattle.std.proofs.lemmas.List.Elements.{All-contains}
use Rattle.bouquet_type.specs.Trees.{bouquet_tree}
use Rattle.workspace.specs.Counted.{IsCountedBefore}
use Rattle.workspace.specs.Outcome.{Refuses}
use Rattle.workspace.specs.Present.{stale_count, present_due}
use Rattle.workspace.specs.States.{NamedShape, named_shape, named_of, world_of}
use Rattle.workspace.specs.World.{World, NamedBouquet, named_in}
use Rattle.workspace.specs.declared.refusal.Refusal.{Refusal}
use Rattle.workspace.specs.declared.refusal.Refusal.TheVariants as refusal
use Rattle.workspace.proofs.Counting.{counts_fresh}
use Rattle.workspace.proofs.Stopping.{stops_so}
use Rattle.workspace.proofs.workspace.Workspace.present.Goals as goal

-- none has the name
none_present : (world : World) (name : List ℕ) → named_in name world.bouquets ≡ None → (found : Refusal) → Refuses (refusal.NoBouquet name) ≡ Refuses found → present_due world name ≡ Err found
none_present world name none found is = rw none (ap Err (cc is))

pub returns-in_default-clause-due : goal.returns-in_default-clause-due
returns-in_default-clause-due c =
    let world : World = world_of c.args.self.now in
    let name = c.args.name.now in
    let none : named_in name world.bouquets ≡ None = rw (← c.self.view_is, ← c.bytes.ensures) (c.get.ensures.none (ap is_some c.in_default.is)) in
    stops_so (λ found. Refuses (refusal.NoBouquet name) ≡ Refuses found) (λ found. present_due world name ≡ Err found) (none_present world name none) c.no_bouquet.result c.no_bouquet.ensures

pub returns-in_err-refuse_stale-clause-due : goal.returns-in_err-refuse_stale-clause-due
returns-in_err-refuse_stale-clause-due c =
    let world : World = world_of (record { database = c.self.inside.database; bouquets = c.self.inside.bouquets }) in
    let named : NamedBouquet = named_of (named_shape c.bytes.result.now c.in-Some.kept.now) in
    let found : named_in c.args.name.now world.bouquets ≡ Some named = rw (← c.bytes.ensures) c.in-Some.ensures.named in
    let stop = err_from_is_err_and c.from_residual.result c.from_residual.ensures.1 in
    rw (← c.self.view_is, stop.1, stop.2, found, c.in_err-refuse_stale.ensures.refused) (refl, refl)

pub returns-clause-due : goal.returns-clause-due
returns-clause-due c =
    let world : World = world_of (record { database = c.self.inside.database; bouquets = c.self.inside.bouquets }) in
    let named : NamedBouquet = named_of (named_shape c.bytes.result.now c.in-Some.kept.now) in
    let found : named_in c.args.name.now world.bouquets ≡ Some named = rw (← c.bytes.ensures) c.in-Some.ensures.named in
    let none : stale_count world.database named.bouquet ≡ None = c.in_ok-refuse_stale.ensures.answered in
    rw (← c.self.view_is, found, none) refl

pub returns-clause-counts : goal.returns-clause-counts
returns-clause-counts c =
    let world : World = world_of (record { database = c.self.inside.database; bouquets = c.self.inside.bouquets }) in
    let kept : NamedShape = named_shape c.bytes.result.now c.in-Some.kept.now in
    let named : NamedBouquet = named_of kept in
    let none : stale_count world.database named.bouquet ≡ None = c.in_ok-refuse_stale.ensures.answered in
    let counted : IsCountedBefore world.database named.bouquet =
    All-contains (λ (one : NamedShape). IsCountedBefore world.database (bouquet_tree one.bouquet)) c.self.inside.bouquets kept c.self.invariant.counted c.in-Some.ensures.there in
    rw (← c.self.view_is) (counts_fresh world.database named.bouquet counted none)
