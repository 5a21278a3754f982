use Rattle.std.proofs.Common.{◌≡◌, ◌∙◌, refl, ap, subst}
use Rattle.query_block.specs.Blocks.{RelationTree, relation_tree}
use Rattle.db_catalog.specs.Database.{DatabaseState}
use Rattle.exec_scan.specs.declared.table_way.TableWay.{TableWay}
use Rattle.exec_scan.specs.declared.way.Way.TheVariants.{Table}
use Rattle.exec_scan.specs.Reading.{IsWayTo}
use Rattle.exec_scan.specs.TableReading.{IsTableReader, TableReaderState}
use Rattle.exec_scan.proofs.MarkedRows.{no-marks}
use Rattle.exec_scan.proofs.OnWay.{begins}
use Rattle.exec_scan.proofs.table_way.TableWay.find.Goals as goal

pub pages-init : goal.pages-init
pages-init c = record { way = c.requires.way; kept = refl; on_way = begins _ _; database = refl }

pub returns-in-Some-clause-row : goal.returns-in-Some-clause-row
returns-in-Some-clause-row c = rw c.pages.invariant.kept at (rw (c.in-Some.is, c.pages.invariant.database) at c.find_on_page.ensures.row)

-- a way without marks at hand leads on where its reader goes on in its table
goes-on : (database seen : DatabaseState) (own : RelationTree) (way : TableWay) (reader : TableReaderState) → IsWayTo seen own (Table way) → seen ≡ database
    → reader.table ≡ way.reader.table → IsTableReader seen reader → IsWayTo database own (Table (record way { reader = reader; next = record { marks = 0; end = 0 } }))
goes-on database seen own way reader is same at reads =
    subst (λ d. IsWayTo d own (Table (record way { reader = reader; next = record { marks = 0; end = 0 } }))) same (record {
      relation = is.relation;
      table = at ∙ is.table;
      reading = record { reader = reads; filter = is.reading.filter; next = no-marks seen own.filter way.filter.exact reader };
    })

pub returns-in_err-open_next-clause-goes_on : goal.returns-in_err-open_next-clause-goes_on
returns-in_err-open_next-clause-goes_on c = record {
  way = goes-on c.args.meter.now.database c.pages.meter.database (relation_tree c.args.relation.now) c.find_on_page.new.self c.open_next.new.self c.find_on_page.ensures.goes_on c.pages.invariant.database
      (ap (λ r. r.table) c.open_next.ensures.goes_on.moves) c.open_next.ensures.goes_on.reader;
  column = refl;
}
