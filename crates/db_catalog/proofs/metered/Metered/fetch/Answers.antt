use Rattle.db_catalog.proofs.Tables.{IfOk-map, row_there}
use Rattle.db_catalog.proofs.metered.Metered.fetch.Goals as goal

pub heap-requires : goal.heap-requires
heap-requires c = row_there c.self.inside.database.now _ c.args.i (rw (← c.self.view_is) at c.requires)

pub returns-clause-row : goal.returns-clause-row
returns-clause-row c = rw (← c.self.view_is) (IfOk-map c.fetch.result (λ words. c.heap.ensures.rows c.args.i words.now) c.fetch.ensures.row)
