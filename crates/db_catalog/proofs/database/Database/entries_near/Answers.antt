use Rattle.std.proofs.Common.{All, length, subst}
use Rattle.std.specs.Prelude.{Contains}
use Rattle.db_catalog.specs.Database.{table_at}
use Rattle.db_catalog.proofs.OfIndexes.{index_at-below, some-below}
use Rattle.db_catalog.proofs.database.Database.entries_near.Goals as goal

pub returns : goal.returns
returns c =
    let db = c.args.self.now in
    let rows = length (table_at db c.args.table).rows in
    some-below _ c.near.result.now rows (index_at-below db c.args.table c.args.column)
    (subst (λ entries. All (Contains entries) c.near.result.now) c.index.ensures.entries c.near.ensures)
