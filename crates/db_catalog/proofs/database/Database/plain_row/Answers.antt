use Rattle.db_catalog.proofs.database.Database.plain_row.Goals as goal

pub returns : goal.returns
returns c = c.heap.ensures.rows _ _ c.get.ensures
