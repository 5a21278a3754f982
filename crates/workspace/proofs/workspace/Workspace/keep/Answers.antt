-- The bouquet is kept behind the others.
use Rattle.std.proofs.Common.{◌≡◌, ◌∙◌, ℕ, List, [], ◌∷◌, ◌++◌, sym, ap}
use Rattle.bouquet_type.specs.Trees.{bouquet_tree}
use Rattle.workspace.specs.Outcome.{Prints}
use Rattle.workspace.specs.States.{NamedShape, named_shape, world_of}
use Rattle.workspace.specs.World.{World, NamedBouquet}
use Rattle.workspace.proofs.Compiling.{world_kept}
use Rattle.workspace.proofs.Growing.{is_with_bouquet}
use Rattle.workspace.proofs.workspace.Workspace.keep.Goals as goal

pub invariant_of-self-2 : goal.invariant_of-self-2
invariant_of-self-2 c =
    let kept : NamedShape = named_shape c.in_ok-name.name.items c.args.kept in
    is_with_bouquet c.self.inside.database c.self.inside.bouquets c.add.new.self kept c.in_ok-add.ensures.added (rw (← c.self.view_is) at c.requires.fits) (rw (← c.self.view_is) at c.requires.counts) c.requires.text c.requires.parameters c.self.invariant

pub returns-clause-kept : goal.returns-clause-kept
returns-clause-kept c =
    let world : World = world_of (record { database = c.self.inside.database; bouquets = c.self.inside.bouquets }) in
    let kept : NamedShape = named_shape c.in_ok-name.name.items c.args.kept in
    let name : c.args.name.now ≡ kept.name = sym (c.in_ok-name.ensures.items ∙ c.bytes.ensures) in
    let line = sym c.in_ok-text.ensures in
    let named : List ℕ → NamedBouquet = λ n. record { name = n; query = kept.query; bouquet = bouquet_tree kept.bouquet } in
    rw (← c.self.view_is) (
    (λ i. Prints (line i) 0 (record world { bouquets = world.bouquets ++ named (name i) ∷ [] }))
    ∙ ap (Prints c.in_ok-text.text.items 0) (world_kept c.self.inside.database c.self.inside.bouquets c.add.new.self kept c.in_ok-add.ensures.added)
    )
