use Rattle.std.proofs.Common.{◌∙◌, ◌++◌, ◌∷◌, [], arith, ap, refl, sym}
use Rattle.std.proofs.lemmas.Option.{get_or_from_slice_get}
use Rattle.result_text.specs.Rows.{WordRow}
use Rattle.result_text.proofs.Combined.{one_more}
use Rattle.result_text.proofs.projection.whole_rows.Goals as goal

pub loop-number-preserved : goal.loop-number-preserved
loop-number-preserved c =
    let rows = c.args.rows.now.rows in
    let same = sym (get_or_from_slice_get rows c.loop-number.number _ [] c.row.ensures.row) in
    one_more (λ rows. rows) (λ (row : WordRow). row ∷ []) (λ row rows. refl) rows c.loop-number.number [] c.loop-number.lent.items c.push.new.self.items _ (omega arith)
    (c.in_ok-push.ensures.items ∙ ap (λ (row : WordRow). c.loop-number.lent.items ++ row ∷ []) (c.new.ensures ∙ same)) c.loop-number.invariant
