-- Words that are left have a page that is there.
use Rattle.std.proofs.Common.{◌≡◌, ℕ, ℤ, ◌+◌, ◌*◌, ◌<◌, ◌≤◌, List, ◌++◌, length, ap, sym, arith}
use Rattle.std.proofs.lemmas.Bool.{eqb-false}
use Rattle.std.proofs.lemmas.List.{length-append}
use Rattle.heap_pages.specs.Layout.{PagesState}
use Rattle.heap_pages.proofs.PageStarts.{page_before}
use Rattle.heap_pages.proofs.pages.Pages.append_all.Goals as goal

there_is : (number size count : ℕ) (words rest before more : List ℤ) → words ++ rest ≡ before ++ more → number * size ≤ length words →
    length before + length more ≤ count * size → 0 < length rest → number < count
there_is number size count words rest before more all begun room some =
    page_before number count size (omega (arith, ap length all, length-append words rest, length-append before more))

pub filled-requires : goal.filled-requires
filled-requires c =
    let some : 0 < length c.loop-rest.rest.now = omega (arith, eqb-false (length c.loop-rest.rest.now) 0 (sym c.loop-rest-test.ensures)) in
    let begun = c.loop-rest.invariant.begun some in
    rw c.loop-rest.invariant.same (record {
      there = there_is c.loop-rest.number c.args.self.now.size c.args.self.now.count c.loop-rest.self.words c.loop-rest.rest.now c.args.self.now.words c.args.more.now
          c.loop-rest.invariant.all begun c.requires.room some;
      begun = begun;
      last = omega (arith, c.loop-rest.invariant.free);
    })

pub append-requires-clause-last : goal.append-requires-clause-last
append-requires-clause-last c = filled-requires c.before.before.before

pub overflow_add-number : goal.overflow_add-number
overflow_add-number c =
    let some : 0 < length c.loop-rest.rest.now = omega (arith, eqb-false (length c.loop-rest.rest.now) 0 (sym c.loop-rest-test.ensures)) in
    let low = there_is c.loop-rest.number c.args.self.now.size c.args.self.now.count c.loop-rest.self.words c.loop-rest.rest.now c.args.self.now.words c.args.more.now
    c.loop-rest.invariant.all (c.loop-rest.invariant.begun some) c.requires.room some in
    let same : c.loop-rest.self.count ≡ c.args.self.now.count = ap (λ (p : PagesState). p.count) c.loop-rest.invariant.same in
    let count = rw (← c.self.view_is) at same in
    omega (arith, low, count, c.self.inside.pages.ok.1, c.self.inside.pages.small)
