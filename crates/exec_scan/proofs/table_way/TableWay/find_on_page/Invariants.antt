use Rattle.std.proofs.Common.{◌≡◌, ◌-◌}
use Rattle.query_block.specs.Blocks.{relation_tree}
use Rattle.exec_scan.specs.declared.way.Way.TheVariants.{Table}
use Rattle.exec_scan.specs.Reading.{IsWayTo, kept_ahead}
use Rattle.exec_scan.specs.TableReading.{ArePageWords}
use Rattle.exec_scan.specs.TableWays.{MovesOnPage}
use Rattle.exec_scan.proofs.table_way.TableWay.find_on_page.Given as goal

-- the rows that are looked at don't meet the filter
abbrev pub invariant-loop-page : goal.invariant-loop-page
invariant-loop-page l =
    let database = l.fn.meter.database in
    let own = relation_tree l.relation in
    record {
      way : IsWayTo database own (Table l.self);
      kept : kept_ahead database own l.self.reader ≡ kept_ahead database own l.fn.self.reader;
      moves : MovesOnPage l.fn.self l.self;
      words : ArePageWords database l.self.reader l.page;
    }

abbrev pub decreases-loop-page : goal.decreases-loop-page
decreases-loop-page l = l.self.reader.slots - l.self.reader.slot
