use Rattle.std.proofs.Common.{◌∙◌, ◌≡◌}
use Rattle.sql_values.specs.Stored.{values_of}
use Rattle.result_text.specs.Printed.{record_of}
use Rattle.result_text.proofs.RowsInTurn.{next_row, row_more}
use Rattle.result_text.proofs.TextWriter.{text_more}
use Rattle.result_text.proofs.print.write_gathered.Goals as goal

pub loop-row-preserved : goal.loop-row-preserved
loop-row-preserved g c =
    let rows = c.args.rows.now in
    let i = c.loop-row.row-index in
    let row = c.row-item.result in
    let parts = next_row rows i row c.loop-row.left.now c.loop-row-test.true c.row-item.is c.loop-row.invariant.0 in
    let first : c.split_at.result.0.now ≡ row = rw c.row.ensures at c.split_at.ensures.front ∙ parts.0 in
    let rest = rw c.row.ensures at c.split_at.ensures.back ∙ parts.1 in (
      rest,
      rw (row_more (λ row. record_of (values_of (g.L.TextList.texts c.args.texts.now) c.args.kinds.now row)) rows i row c.loop-row-test.true c.row-item.is)
          (text_more _ _ _ _ _ c.loop-row.invariant.1 (rw first at c.in_ok-write_row.ensures)),
    )
