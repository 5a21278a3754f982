use Rattle.std.proofs.Common.{◌≡◌, ◌≤◌, ◌+◌, ◌-◌, ◌*◌, ◌∙◌, ap, length, take, drop, arith}
use Rattle.std.proofs.lemmas.List.{length-take-le, length-drop}
use Rattle.heap_pages.proofs.CutRows.{row_end}
use Rattle.db_catalog.specs.Recoded.{recoded_row}
use Rattle.db_catalog.proofs.Recoding.{next_row}
use Rattle.db_catalog.proofs.recode.recode.Goals as goal

pub loop-i-preserved : goal.loop-i-preserved
loop-i-preserved c =
    let width = length c.args.columns.now in
    let start = c.loop-i.i * width in
    let many = start + width - start in
    let is_width : many ≡ width = omega arith in
    let within : start + width ≤ length c.loop-i.words = omega (arith, row_end c.loop-i.i c.args.rows width c.loop-i-test.true, c.requires, c.loop-i.auto.words) in
    let long : length (take many (drop start c.loop-i.words)) ≡ many = length-take-le many (drop start c.loop-i.words) (omega (arith, length-drop start c.loop-i.words, within)) in
    let wide : length c.recode_row.new.row ≡ width = omega (arith, c.recode_row.auto.row, long, is_width) in
    next_row (recoded_row c.args.codes.now c.args.columns.now) width c.loop-i.i c.loop-i.words c.args.words.now c.recode_row.new.row many is_width within wide
    c.loop-i.invariant.0 c.loop-i.invariant.1 (c.recode_row.ensures ∙ ap (λ n. recoded_row c.args.codes.now c.args.columns.now (take n (drop start c.loop-i.words))) is_width)
