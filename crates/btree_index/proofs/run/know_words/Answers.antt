use Rattle.std.proofs.Common.{rules, FitsSigned, w64, slice_index_or, pos, subst}
use Rattle.std.proofs.lemmas.List.{take_all}
use Rattle.std.proofs.lemmas.List.Elements.{All-more}
use Rattle.btree_index.specs.Entries.{HaveWords, IndexEntry}
use Rattle.btree_index.proofs.run.know_words.Goals as goal

pub loop-place-preserved : goal.loop-place-preserved
loop-place-preserved c =
    let fits : FitsSigned w64 (slice_index_or c.args.entries.now c.loop-place.place (pos 0, 0)).0 = search rules in
    All-more (λ (entry : IndexEntry). FitsSigned w64 entry.0) c.args.entries.now c.loop-place.place (pos 0, 0) c.loop-place-test.true c.loop-place.invariant fits

pub returns : goal.returns
returns c = subst HaveWords (take_all c.loop-place.place c.args.entries.now c.loop-place-test.false) c.loop-place.invariant
