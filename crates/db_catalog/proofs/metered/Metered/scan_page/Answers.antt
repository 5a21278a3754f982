use Rattle.db_catalog.proofs.Tables.{page_there}
use Rattle.db_catalog.proofs.metered.Metered.scan_page.Goals as goal

pub heap-requires : goal.heap-requires
heap-requires c = page_there c.self.inside.database.now _ c.args.no (rw (← c.self.view_is) at c.requires)
