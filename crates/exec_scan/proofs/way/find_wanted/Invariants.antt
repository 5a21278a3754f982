use Rattle.std.proofs.Common.{◌≡◌, length}
use Rattle.query_block.specs.Blocks.{relation_tree}
use Rattle.exec_scan.specs.declared.way.Way.TheVariants.{Index}
use Rattle.exec_scan.specs.EntryReading.{ReadsOn}
use Rattle.exec_scan.specs.OnWay.{OnWay}
use Rattle.exec_scan.specs.Reading.{IsWayTo, kept_rows, wanted_due, wanted_rows}
use Rattle.exec_scan.proofs.way.find_wanted.Given as goal

abbrev pub invariant-loop-row : goal.invariant-loop-row
invariant-loop-row l =
    let database = l.fn.meter.database in
    let own = relation_tree l.relation in
    record {
      way : IsWayTo database own (Index l.reader);
      kept : kept_rows database own (Index l.reader) ≡ kept_rows database own (Index l.fn.reader);
      on_way : OnWay (wanted_due database own l.fn.reader) (wanted_due database own l.reader) l.fn.meter.account l.meter.account;
      goes_on : ReadsOn database l.fn.reader l.reader;
      database : l.meter.database ≡ database;
    }

abbrev pub decreases-loop-row : goal.decreases-loop-row
decreases-loop-row l = length (wanted_rows l.fn.meter.database (relation_tree l.relation) l.reader)
