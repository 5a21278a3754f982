use Rattle.std.proofs.Common.{◌≡◌, ◌+◌, ◌-◌, ◌<◌, ◌≤◌, Bool, ap, subst, ◌∙◌, arith, rules}
use Rattle.query_block.specs.Blocks.{relation_tree}
use Rattle.row_filter.proofs.Fixed.{closed-all}
use Rattle.exec_scan.specs.declared.table_way.TableWay.{TableWay}
use Rattle.exec_scan.specs.TableWays.{LooksUpTo}
use Rattle.exec_scan.proofs.MarkedRows.{looks-up-to, marks-behind, within}
use Rattle.exec_scan.proofs.table_way.TableWay.next_marked.Goals as goal

pub returns-clause-looks : goal.returns-clause-looks
returns-clause-looks c =
    let database = c.args.meter.now.database in
    let own = relation_tree c.args.relation.now in
    let here = c.loop-self.self in
    let up = looks-up-to database own (closed-all own.columns own.filter c.requires.way.relation.allowed.filter) here.filter.exact here.reader here.next c.loop-self.invariant.way.reading.next
    c.first_marked-before.result c.first_marked-before.ensures.first c.pass.new.self c.pass.ensures in
    let told : here.filter.exact ≡ c.args.self.now.filter.exact = ap (λ (way : TableWay). way.filter.exact) c.loop-self.invariant.moves in
    record {
      some = omega (arith, up.some, c.loop-self.invariant.upwards);
      passed = up.passed ∙ c.loop-self.invariant.kept;
      meets = (subst (λ (exact : Bool). LooksUpTo database own exact here.reader c.pass.new.self) told up).meets;
    }

pub returns-clause-goes_on : goal.returns-clause-goes_on
returns-clause-goes_on c =
    let own = relation_tree c.args.relation.now in
    let here = c.loop-self.self in
    let closed = closed-all own.columns own.filter c.requires.way.relation.allowed.filter in
    let is = c.loop-self.invariant.way.reading.next in
    let less : c.first_marked-before.result < here.next.end - here.reader.slot = within c.args.meter.now.database own closed here.filter.exact here.reader here.next is c.first_marked-before.result c.first_marked-before.ensures.first in
    let fits : here.reader.slot + (c.first_marked-before.result + 1) ≤ here.reader.slots = omega (arith, less, is.on_page) in
    record {
      relation = c.requires.way.relation;
      table = search rules;
      reading = record {
        reader = search rules;
        filter = c.loop-self.invariant.way.reading.filter;
        next =
            marks-behind c.args.meter.now.database own closed here.filter.exact here.reader here.next is
            c.first_marked-before.result c.first_marked-before.ensures.first c.pass.new.self c.pass.ensures c.marks_behind-self.result c.marks_behind-self.ensures;
      };
    }
