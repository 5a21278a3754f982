use Rattle.std.proofs.Common.{◌≡◌, ◌<◌, true, false, length, ap, sym, ◌∙◌, arith, rules}
use Rattle.sql_values.specs.Stored.{values_of}
use Rattle.query_block.specs.Blocks.{relation_tree}
use Rattle.query_block.specs.Meaning.{meets_filter}
use Rattle.exec_scan.specs.declared.table_way.TableWay.{TableWay}
use Rattle.exec_scan.proofs.FoundOnPage.{last-row, same-page}
use Rattle.exec_scan.proofs.MarkedRows.{kept-row, passed-row, told-row}
use Rattle.exec_scan.proofs.table_way.TableWay.find_on_page.Goals as goal
use Rattle.exec_scan.proofs.table_way.TableWay.find_on_page.Goals.{then-is_exact-via-then-is_exact, then-is_exact-via-else-is_exact+then-is_met}

pub is_met-requires-clause-words : goal.is_met-requires-clause-words
is_met-requires-clause-words c =
    let own = relation_tree c.args.relation.now in
    let new = c.next_candidate.new.self.reader in
    let on = c.next_candidate.ensures.goes_on in
    let words = same-page c.args.meter.now.database c.loop-page.self.reader new c.page-page.result.now c.loop-page.invariant.words (ap (λ (way : TableWay). way.reader) c.next_candidate.ensures.moves) in
    let some : 0 < new.slot = omega (arith, c.loop-page-test.ensures.looks.some) in
    (last-row c.args.meter.now.database own c.requires.way.relation new on.reading.reader on.table c.page-page.result.now words some (length c.as_slice-width.result.now) (ap length c.as_slice-width.ensures)
    c.last_row-row.result.now c.last_row-row.ensures).are

pub returns-then-is_exact-clause-row : goal.returns-then-is_exact-clause-row
returns-then-is_exact-clause-row c =
    let database = c.args.meter.now.database in
    let own = relation_tree c.args.relation.now in
    let old = c.loop-page.self in
    let new = c.next_candidate.new.self.reader in
    let row = c.last_row-row.result.now in
    let on = c.next_candidate.ensures.goes_on in
    let looks = c.loop-page-test.ensures.looks in
    let words = same-page database old.reader new c.page-page.result.now c.loop-page.invariant.words (ap (λ (way : TableWay). way.reader) c.next_candidate.ensures.moves) in
    let some : 0 < new.slot = omega (arith, looks.some) in
    let first = last-row database own c.requires.way.relation new on.reading.reader on.table c.page-page.result.now words some (length c.as_slice-width.result.now) (ap length c.as_slice-width.ensures)
    row c.last_row-row.ensures in
    let meets : meets_filter own.filter (values_of database.texts own.columns row) ≡ true =
    elim c.then-is_exact.branch [
      | then-is_exact-via-then-is_exact w ↦ told-row database own old.filter.exact old.reader new looks row first
          (ap (λ (way : TableWay). way.filter.exact) (sym c.next_candidate.ensures.moves) ∙ sym c.is_exact.ensures ∙ w.if-is_exact.true)
      | then-is_exact-via-else-is_exact+then-is_met w ↦ sym w.is_met.ensures ∙ w.if-is_met.true
    ] in
    rw c.loop-page.invariant.kept at (kept-row database own old.filter.exact old.reader new looks row first meets)

pub loop-page-preserved : goal.loop-page-preserved
loop-page-preserved c =
    let database = c.args.meter.now.database in
    let own = relation_tree c.args.relation.now in
    let old = c.loop-page.self in
    let new = c.next_candidate.new.self.reader in
    let row = c.last_row-row.result.now in
    let on = c.next_candidate.ensures.goes_on in
    let looks = c.loop-page-test.ensures.looks in
    let words = same-page database old.reader new c.page-page.result.now c.loop-page.invariant.words (ap (λ (way : TableWay). way.reader) c.next_candidate.ensures.moves) in
    let some : 0 < new.slot = omega (arith, looks.some) in
    let first = last-row database own c.requires.way.relation new on.reading.reader on.table c.page-page.result.now words some (length c.as_slice-width.result.now) (ap length c.as_slice-width.ensures)
    row c.last_row-row.ensures in
    let fails : meets_filter own.filter (values_of database.texts own.columns row) ≡ false = sym c.is_met.ensures ∙ c.if-is_met.false in
    record {
      way = on;
      kept = passed-row database own old.filter.exact old.reader new looks row first fails ∙ c.loop-page.invariant.kept;
      moves = search rules;
      words = words;
    }
