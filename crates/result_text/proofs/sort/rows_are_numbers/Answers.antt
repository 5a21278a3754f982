use Rattle.std.proofs.Common.{arith, subst, ◌∙◌}
use Rattle.std.proofs.lemmas.List.Elements.{All-more}
use Rattle.result_text.specs.Rows.{AreNumbers}
use Rattle.result_text.proofs.sort.rows_are_numbers.Goals as goal

pub loop-row-preserved : goal.loop-row-preserved
loop-row-preserved c =
    All-more AreNumbers c.args.rows.now c.loop-row.row-index c.row-item.result (omega arith) c.loop-row.invariant
    (subst AreNumbers (c.words.ensures ∙ c.row-item.is) c.words_are_numbers.ensures)
