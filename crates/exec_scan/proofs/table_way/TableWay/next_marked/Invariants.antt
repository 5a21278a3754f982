use Rattle.std.proofs.Common.{◌≡◌, ◌-◌, ◌≤◌, max}
use Rattle.query_block.specs.Blocks.{relation_tree}
use Rattle.exec_scan.specs.declared.way.Way.TheVariants.{Table}
use Rattle.exec_scan.specs.Reading.{IsWayTo, kept_ahead}
use Rattle.exec_scan.specs.TableWays.{MovesOnPage}
use Rattle.exec_scan.proofs.table_way.TableWay.next_marked.Given as goal

-- the rows that are looked at don't meet the filter
abbrev pub invariant-loop-self : goal.invariant-loop-self
invariant-loop-self l =
    let database = l.fn.meter.database in
    let own = relation_tree l.relation in
    record {
      way : IsWayTo database own (Table l.self);
      kept : kept_ahead database own l.self.reader ≡ kept_ahead database own l.fn.self.reader;
      moves : MovesOnPage l.fn.self l.self;
      upwards : l.fn.self.reader.slot ≤ l.self.reader.slot;
    }

abbrev pub decreases-loop-self : goal.decreases-loop-self
decreases-loop-self l = l.self.reader.slots - max l.self.reader.slot l.self.next.end
