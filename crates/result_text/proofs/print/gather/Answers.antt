use Rattle.std.proofs.Common.{◌∙◌, ◌++◌, sym}
use Rattle.result_text.specs.Rows.{WordRow}
use Rattle.result_text.proofs.RowsInTurn.{row_more}
use Rattle.result_text.proofs.print.gather.Goals as goal

pub loop-row-preserved : goal.loop-row-preserved
loop-row-preserved c =
    c.in_ok-extend_from_slice.ensures.items
    ∙ (λ k. c.loop-row.invariant k ++ c.row.ensures k)
    ∙ sym (row_more (λ (row : WordRow). row) c.args.rows.now c.loop-row.row-index c.row-item.result c.loop-row-test.true c.row-item.is)
