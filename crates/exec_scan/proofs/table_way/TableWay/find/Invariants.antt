use Rattle.std.proofs.Common.{◌≡◌, ◌-◌}
use Rattle.query_block.specs.Blocks.{relation_tree}
use Rattle.exec_scan.specs.declared.way.Way.TheVariants.{Table}
use Rattle.exec_scan.specs.OnWay.{OnWay}
use Rattle.exec_scan.specs.Reading.{IsWayTo, kept_rows, read_due}
use Rattle.exec_scan.proofs.table_way.TableWay.find.Given as goal

abbrev pub invariant-pages : goal.invariant-pages
invariant-pages l =
    let database = l.fn.meter.database in
    let own = relation_tree l.relation in
    record {
      way : IsWayTo database own (Table l.self);
      kept : kept_rows database own (Table l.self) ≡ kept_rows database own (Table l.fn.self);
      on_way : OnWay (read_due database own (Table l.fn.self)) (read_due database own (Table l.self)) l.fn.meter.account l.meter.account;
      database : l.meter.database ≡ database;
    }

abbrev pub decreases-pages : goal.decreases-pages
decreases-pages l = l.self.reader.pages - l.self.reader.opened
