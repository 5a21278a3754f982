-- A page more, without words, behind those that are there.
use Rattle.std.proofs.Common.{◌≤◌, [], ◌∷◌, length, ◌∙◌, arith}
use Rattle.std.proofs.lemmas.List.{take-append-le}
use Rattle.heap_pages.proofs.Packed.{words-added, ArePackedPages-added}
use Rattle.heap_pages.proofs.pages.add_pages.Goals as goal

pub loop-number-preserved : goal.loop-number-preserved
loop-number-preserved c =
    let page = c.in_ok-with_capacity.field-0 in
    let upto : c.args.pages.now.len ≤ length c.loop-number.pages.items = omega (arith, c.loop-number.invariant.number, c.loop-number.pages.ok.0, c.loop-number.auto._number, c.len-number.ensures) in
    record {
      kept = rw c.in_ok-push.ensures.items (take-append-le c.args.pages.now.len c.loop-number.pages.items (page ∷ []) upto ∙ c.loop-number.invariant.kept);
      words = rw c.in_ok-push.ensures.items (words-added c.loop-number.pages.items page c.in_ok-with_capacity.ensures.items ∙ c.loop-number.invariant.words);
      packed = λ are. rw c.in_ok-push.ensures.items (ArePackedPages-added c.args.size c.loop-number.pages.items page c.in_ok-with_capacity.ensures.items c.in_ok-with_capacity.ensures.capacity (c.loop-number.invariant.packed are));
      number = omega (arith, c.in_ok-push.ensures.len, c.loop-number.invariant.number);
      few = omega (arith, c.in_ok-push.ensures.len, c.loop-number.invariant.number, c.loop-number-test.true);
    }

pub returns-clause-count : goal.returns-clause-count
returns-clause-count c = omega (arith, c.loop-number.invariant.number, c.loop-number.invariant.few, c.loop-number.auto._number, c.loop-number-test.false, c.len-number.ensures)
