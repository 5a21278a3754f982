use Rattle.db_catalog.proofs.Tables.{IfOk-map, slot_there}
use Rattle.db_catalog.proofs.metered.Metered.row.Goals as goal

pub heap-heap-requires : goal.heap-heap-requires
heap-heap-requires c = slot_there c.self.inside.database.now _ c.args.view.now.number c.args.slot (rw (← c.self.view_is) at c.requires)

pub returns-clause-row : goal.returns-clause-row
returns-clause-row c = rw (← c.self.view_is, ← c.heap-heap.ensures.width)
    (IfOk-map c.row_of.result (λ words. c.heap-heap.ensures.rows _ words.now) c.row_of.ensures.row)
