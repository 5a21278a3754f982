-- A new name comes last.
use Rattle.std.proofs.Common.{◌≡◌, ◌∙◌, ◌++◌, ◌∷◌, [], None, ap, map}
use Rattle.std.specs.Map.{lookup}
use Rattle.std.proofs.lemmas.List.{map-append}
use Rattle.std.specs.Str.{bytes_eq}
use Rattle.indexmap.proofs.CallerLemmas.{insert_entry-new}
use Rattle.workspace.specs.States.{named_of}
use Rattle.workspace.specs.World.{named_in}
use Rattle.workspace.proofs.NamedLists.{Entry, is_name, state_of, states_of, none_found}
use Rattle.workspace.proofs.named_bouquets.NamedBouquets.add.Goals as goal

pub returns-clause-added : goal.returns-clause-added
returns-clause-added c =
    let entries = c.self.inside.kept.entries in
    let entry : Entry = (c.args.name, c.args.kept) in
    let free : named_in c.args.name.items (map named_of (states_of entries)) ≡ None = rw c.self.view_is c.requires in
    let none : lookup (is_name c.args.name.items) entries ≡ None = none_found c.args.name.items entries free in
    let put : c.insert.new.self.entries ≡ entries ++ entry ∷ [] =
    c.in_ok-insert.ensures.entries ∙ insert_entry-new (λ x y. bytes_eq x.items y.items) c.self.inside.kept c.args.name c.args.kept none in
    rw (← c.self.view_is) (ap states_of put ∙ map-append state_of entries (entry ∷ []))
