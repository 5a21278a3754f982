-- There is no such bouquet, or its file is returned: the text of its query is UTF-8.
use Rattle.std.proofs.Common.{◌≡◌, ◌∙◌, ◌≤◌, length, Some, None, refl, sym, ap}
use Rattle.std.specs.Prelude.{is_some}
use Rattle.std.specs.Str.{IsUtf8}
use Rattle.std.proofs.lemmas.List.Elements.{All-contains}
use Rattle.sql_values.specs.Limits.{max_parameters}
use Rattle.bouquet_file.specs.Written.{file_text}
use Rattle.workspace.specs.Outcome.{Saves}
use Rattle.workspace.specs.Save.{save_outcome}
use Rattle.workspace.specs.States.{NamedShape, named_of, named_shape, world_of}
use Rattle.workspace.specs.World.{World, NamedBouquet, named_in}
use Rattle.workspace.proofs.workspace.Workspace.save_file.Goals as goal

pub to_bytes-requires : goal.to_bytes-requires
to_bytes-requires c =
    let kept = named_shape c.bytes.result.now c.in-Some.kept.now in
    let text : IsUtf8 kept.query = All-contains (λ (one : NamedShape). IsUtf8 one.query) c.self.inside.bouquets kept c.self.invariant.texts c.in-Some.ensures.there in
    let few : length kept.bouquet.block.parameters ≤ max_parameters =
    All-contains (λ (one : NamedShape). length one.bouquet.block.parameters ≤ max_parameters) c.self.inside.bouquets kept c.self.invariant.parameters c.in-Some.ensures.there in
    record { text = rw c.deref.ensures.value text; parameters = few }

pub returns-in_default : goal.returns-in_default
returns-in_default c = λ file.
    let world : World = world_of c.args.self.now in
    let save = c.args.save.now in
    let none : named_in save.name world.bouquets ≡ None = rw (← c.self.view_is, ← c.bytes.ensures) (c.get.ensures.none (ap is_some c.in_default.is)) in
    rw none c.no_bouquet.ensures

pub returns : goal.returns
returns c =
    let world : World = world_of (record { database = c.self.inside.database; bouquets = c.self.inside.bouquets }) in
    let save = c.args.save.now in
    let named : NamedBouquet = named_of (named_shape c.bytes.result.now c.in-Some.kept.now) in
    let found : named_in save.name world.bouquets ≡ Some named = rw (← c.bytes.ensures) c.in-Some.ensures.named in
    let due : save_outcome world save ≡ Saves save.file (file_text named.bouquet named.query) = rw found refl in
    let bytes : c.in_ok-bytes.bytes.items ≡ file_text named.bouquet named.query = c.in_ok-bytes.ensures.text ∙ ap (file_text named.bouquet) c.deref.ensures.value in
    let name : c.in_ok-clone.field-0 ≡ save.file = c.in_ok-clone.ensures.cases in
    rw (← c.self.view_is) (record {
      writes = (name, rw found refl);
      text = rw name c.requires;
      due = λ file. due ∙ (λ i. Saves (sym name i) (sym bytes i));
    })
