use Rattle.std.proofs.Common.{◌∙◌, All, fold, sym, ap, subst, arith, rules, FitsSigned, w64}
use Rattle.std.specs.Int.{int_max}
use Rattle.std.proofs.lemmas.Int.{ints, to_z-of_z}
use Rattle.std.proofs.lemmas.List.Sums.{fold_push}
use Rattle.narrow_columns.specs.Codes.{IsWithin}
use Rattle.narrow_columns.specs.Rows.{words_of_column, row_word, least_word}
use Rattle.narrow_columns.proofs.ColumnsOfRows.{words_of_column-more}
use Rattle.narrow_columns.proofs.Extents.{within-more}
use Rattle.narrow_columns.proofs.extent.extent_of.Goals as goal

pub loop-row-preserved : goal.loop-row-preserved
loop-row-preserved c =
    let at = c.args.at in
    let row = c.loop-row.row in
    let rows = c.args.rows.now in
    let word = row_word at row rows in
    let fits : FitsSigned w64 word = search rules in
    let same = to_z-of_z w64 word fits in
    let before = words_of_column at.width at.place row rows in
    let more = sym (words_of_column-more at.width at.place row rows) in
    let old = c.loop-row.extent in
    let new = c.with_word-extent.result in
    let wider = c.with_word-extent.ensures.wider in
    record {
      within = subst (All (IsWithin new.least new.greatest)) more
          (within-more new.least new.greatest old.least old.greatest wider.0 wider.1 before word c.loop-row.invariant.within (subst (IsWithin new.least new.greatest) same c.with_word-extent.ensures.within));
      least = c.with_word-extent.ensures.least ∙ (λ i. least_word (c.loop-row.invariant.least i) (same i))
          ∙ sym (fold_push least_word c.args.so_far.least before word) ∙ ap (fold least_word c.args.so_far.least) more;
      greatest = c.with_word-extent.ensures.greatest ∙ (λ i. int_max (c.loop-row.invariant.greatest i) (same i))
          ∙ sym (fold_push int_max c.args.so_far.greatest before word) ∙ ap (fold int_max c.args.so_far.greatest) more;
      low = omega (arith, ints, wider.0, c.loop-row.invariant.low);
      high = omega (arith, ints, wider.1, c.loop-row.invariant.high);
    }
