-- One word more.
use Rattle.std.proofs.Common.{rules, All, FitsSigned, w64, slice_index_or, pos, subst}
use Rattle.std.proofs.lemmas.List.{take_all}
use Rattle.std.proofs.lemmas.List.Elements.{All-more}
use Rattle.heap_pages.proofs.columns.know_words.Goals as goal

pub loop-place-preserved : goal.loop-place-preserved
loop-place-preserved c =
    let fits : FitsSigned w64 (slice_index_or c.args.words.now c.loop-place.place (pos 0)) = search rules in
    All-more (FitsSigned w64) c.args.words.now c.loop-place.place (pos 0) c.loop-place-test.true c.loop-place.invariant fits

pub returns : goal.returns
returns c = subst (All (FitsSigned w64)) (take_all c.loop-place.place c.args.words.now c.loop-place-test.false) c.loop-place.invariant
