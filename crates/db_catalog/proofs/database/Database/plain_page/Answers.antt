use Rattle.db_catalog.proofs.database.Database.plain_page.Goals as goal

pub returns-clause-rows : goal.returns-clause-rows
returns-clause-rows c = λ slot below. c.heap.ensures.rows _ _ ((rw (c.heap.ensures.width, c.heap.ensures.count) at c.plain_page.ensures.rows) slot below)
