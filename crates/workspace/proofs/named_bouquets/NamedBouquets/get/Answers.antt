-- The entry that the map finds is that of the name.
use Rattle.workspace.proofs.NamedLists.{none_named, some_named, some_there}
use Rattle.workspace.proofs.named_bouquets.NamedBouquets.get.Goals as goal

pub returns-clause-none : goal.returns-clause-none
returns-clause-none c = rw (← c.self.view_is) (none_named c.args.name.now c.self.inside.kept.entries c.get.result c.get.ensures.value)

pub returns-clause-named : goal.returns-clause-named
returns-clause-named c = rw (← c.self.view_is) (some_named c.args.name.now c.self.inside.kept.entries c.get.result c.get.ensures.value)

pub returns-clause-there : goal.returns-clause-there
returns-clause-there c = rw (← c.self.view_is) (some_there c.args.name.now c.self.inside.kept.entries c.get.result c.get.ensures.value)
