use Rattle.exec_scan.proofs.FoundOnPage.{no-words, page-words}
use Rattle.exec_scan.proofs.table_reader.TableReader.page.Goals as goal

pub returns-in-Some : goal.returns-in-Some
returns-in-Some c =
    rw (← c.self.view_is)
    (page-words c.args.meter.now.database _ (rw (← c.self.view_is) at c.requires) _ c.in-Some.is c.opened_page.result.now c.opened_page.ensures.filled c.opened_page.ensures.rows)

pub returns-in-None : goal.returns-in-None
returns-in-None c = rw (← c.self.view_is) (no-words c.args.meter.now.database _ (rw (← c.self.view_is) at c.requires) c.in-None.is)
