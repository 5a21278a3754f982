use Rattle.std.proofs.Common.{◌≡◌, ◌∙◌, ap, set, get_or, pos, ℤ}
use Rattle.db_catalog.specs.Recoded.{recoded}
use Rattle.db_catalog.proofs.Recoding.{next_word, word_kept}
use Rattle.db_catalog.proofs.recode.recode_row.Goals as goal

pub loop-i-preserved : goal.loop-i-preserved
loop-i-preserved c =
    let word : ℤ = get_or c.args.row.now c.loop-i.i (pos 0) in
    let kind = (get_or c.args.columns.now c.loop-i.i c.index-columns-i.result).kind in
    let now : c.recode_word.new.word ≡ recoded c.args.codes.now kind word =
    c.recode_word.ensures ∙ ap (recoded c.args.codes.now kind)
    (ap (λ r. get_or r c.loop-i.i (pos 0)) c.loop-i.invariant ∙ word_kept c.args.codes.now c.args.columns.now c.args.row.now c.loop-i.i (pos 0) c.loop-i-test.true c.requires) in
    ap (λ w. set c.loop-i.row c.loop-i.i w) now
    ∙ ap (λ r. set r c.loop-i.i (recoded c.args.codes.now kind word)) c.loop-i.invariant
    ∙ next_word c.args.codes.now c.args.columns.now c.args.row.now c.loop-i.i c.index-columns-i.result (pos 0) c.loop-i-test.true c.requires
