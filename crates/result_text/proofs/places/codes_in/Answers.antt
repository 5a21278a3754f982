use Rattle.std.proofs.Common.{◌∙◌, ◌++◌, sym}
use Rattle.result_text.specs.Placing.{text_codes}
use Rattle.result_text.proofs.RowsInTurn.{row_more}
use Rattle.result_text.proofs.places.codes_in.Goals as goal

pub loop-row-preserved : goal.loop-row-preserved
loop-row-preserved c =
    let codes = text_codes c.args.kinds.now in
    c.in_ok-push_codes.ensures
    ∙ (λ k. c.loop-row.invariant k ++ codes (c.words.ensures k))
    ∙ sym (row_more codes c.args.rows.now c.loop-row.row-index c.row-item.result c.loop-row-test.true c.row-item.is)
