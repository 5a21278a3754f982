-- The verdict that is told is the bouquet's own, and it holds.
use Rattle.std.proofs.Common.{◌≡◌, ◌∙◌, Some}
use Rattle.bouquet_type.proofs.Meets.{bouquet-bound}
use Rattle.bouquet_check.proofs.Shown.{verdict-shown}
use Rattle.workspace.specs.Check.{VerdictHolds}
use Rattle.workspace.specs.States.{named_of, named_shape, world_of}
use Rattle.workspace.specs.World.{World, NamedBouquet, named_in}
use Rattle.workspace.proofs.workspace.Workspace.check.Goals as goal

pub returns-clause-bounded : goal.returns-clause-bounded
returns-clause-bounded c =
    let world : World = world_of (record { database = c.self.inside.database; bouquets = c.self.inside.bouquets }) in
    let kept = c.in-Some.kept.now in
    let named : NamedBouquet = named_of (named_shape c.bytes.result.now kept) in
    let found : named_in c.args.name.now world.bouquets ≡ Some named = rw (← c.bytes.ensures) c.in-Some.ensures.named in
    let verdict = c.in_ok-verdict.ensures in
    let holds : VerdictHolds named.bouquet = record {
      shown = verdict-shown named.bouquet c.block.ensures.bouquet.costing;
      bound = λ sound work. bouquet-bound kept.bouquet c.block.ensures.bouquet work (verdict.sound.0 (verdict.verdict ∙ sound));
    } in
    rw (← c.self.view_is, found) holds
