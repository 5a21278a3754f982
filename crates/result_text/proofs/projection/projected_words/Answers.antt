use Rattle.std.proofs.Common.{◌∙◌, ◌++◌, [], ℤ, List, ap, arith, map, refl, sym}
use Rattle.std.proofs.lemmas.Option.{get_or_from_slice_get}
use Rattle.result_text.specs.Combined.{words_at}
use Rattle.result_text.specs.Rows.{WordRow, words_of}
use Rattle.result_text.proofs.Combined.{one_more}
use Rattle.result_text.proofs.projection.projected_words.Goals as goal

pub loop-i-preserved : goal.loop-i-preserved
loop-i-preserved c =
    let part = words_at c.args.places.now in
    let words : List WordRow → List ℤ = λ rows. words_of (map part rows) in
    one_more words part (λ row rows. refl) c.args.rows.now.rows c.loop-i.i [] c.loop-i.words.items c.push_words.new.words.items _ (omega arith)
    (c.in_ok-push_words.ensures ∙ ap (λ row. c.loop-i.words.items ++ part row) (sym (get_or_from_slice_get c.args.rows.now.rows c.loop-i.i _ [] c.row.ensures.row))) c.loop-i.invariant
