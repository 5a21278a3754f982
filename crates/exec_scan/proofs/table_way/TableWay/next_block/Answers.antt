use Rattle.std.proofs.Common.{◌≡◌, ap, sym, ◌∙◌, rules}
use Rattle.query_block.specs.Blocks.{relation_tree}
use Rattle.row_filter.proofs.Fixed.{closed-all}
use Rattle.exec_scan.proofs.MarkedRows.{block-marks, passed}
use Rattle.exec_scan.specs.TableReading.{TableReaderState}
use Rattle.exec_scan.proofs.table_way.TableWay.next_block.Goals as goal

pub returns-then-ahead-eq0-clause-takes : goal.returns-then-ahead-eq0-clause-takes
returns-then-ahead-eq0-clause-takes c =
    let own = relation_tree c.args.relation.now in
    let old = c.args.self.now in
    record {
      passed = passed c.args.meter.now.database own (closed-all own.columns own.filter c.requires.way.relation.allowed.filter) old.filter.exact old.reader old.next c.requires.way.reading.next
          c.pass_to.new.self c.pass_to.ensures c.requires.unmarked;
      all = search rules;
    }

pub returns-clause-takes : goal.returns-clause-takes
returns-clause-takes c =
    let own = relation_tree c.args.relation.now in
    let old = c.args.self.now in (
      passed c.args.meter.now.database own (closed-all own.columns own.filter c.requires.way.relation.allowed.filter) old.filter.exact old.reader old.next c.requires.way.reading.next
          c.pass_to.new.self c.pass_to.ensures c.requires.unmarked,
      search rules,
      search rules,
    )

pub returns-clause-goes_on : goal.returns-clause-goes_on
returns-clause-goes_on c =
    let own = relation_tree c.args.relation.now in
    let reader = c.pass_to.new.self in
    let same : own.table ≡ reader.table = sym c.requires.way.table ∙ sym (ap (λ (r : TableReaderState). r.table) c.pass_to.ensures) in
    record {
      relation = c.requires.way.relation;
      table = search rules;
      reading = record {
        reader = search rules;
        filter = c.requires.way.reading.filter;
        next = record {
          on_page = search rules;
          marks = block-marks c.args.meter.now.database own.filter c.args.self.now.filter reader c.in-Some.page c.in-Some.ensures own.table same c.requires.way.reading.filter
              c.block_end-end.result c.rows_to-rows.result c.rows_to-rows.ensures.first c.rows_to-rows.ensures.count c.marks-marks.result c.marks-marks.ensures;
          asked = λ empty. absurd (c.requires.asked empty);
        };
      };
    }
