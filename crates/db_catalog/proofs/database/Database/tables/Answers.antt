use Rattle.std.proofs.Common.{◌∙◌, sym, ap, subst, map}
use Rattle.db_catalog.proofs.Tables.{names_seen}
use Rattle.std.specs.List.{IsDistinct}
use Rattle.std.specs.Str.{bytes_eq}
use Rattle.db_catalog.proofs.database.Database.tables.Goals as goal

pub returns-clause-distinct : goal.returns-clause-distinct
returns-clause-distinct c = subst (IsDistinct bytes_eq) (c.self.invariant.names_of_tables ∙ sym (names_seen c.self.inside.texts c.self.inside.tables.items) ∙ ap (λ db. map (λ table. table.name) db.tables) c.self.view_is) c.len.ensures.distinct
