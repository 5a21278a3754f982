-- The next row has room on its page.
use Rattle.std.proofs.Common.{◌+◌, ◌<◌, arith}
use Rattle.heap_pages.proofs.PageStarts.{page_before, words_begun, words_fit, words_held}
use Rattle.heap_pages.proofs.heap.Heap.append.Goals as goal

pub append-requires-clause-last : goal.append-requires-clause-last
append-requires-clause-last c =
    let heap = c.self.inside in
    let at = rw (← c.self.view_is) at c.page_of-number.ensures in
    let room : 0 < heap.spare = rw (← c.self.view_is) at c.requires.room in
    let begun = words_begun _ _ _ _ _ _ c.self.invariant.laid c.page_of-number.result at in
    let held = words_held _ _ _ _ _ _ c.self.invariant.laid (heap.rows + 1) heap.pages.count (omega (arith, room, c.self.invariant.laid.room)) in
    record {
      there = page_before _ _ heap.pages.size (omega (arith, begun, held, c.self.invariant.laid.words_fill_rows, c.self.invariant.laid.some_columns));
      begun = begun;
      last = omega (arith, words_fit _ _ _ _ _ _ c.self.invariant.laid c.page_of-number.result at);
    }

pub append-requires-clause-fits : goal.append-requires-clause-fits
append-requires-clause-fits c =
    let width = rw (← c.self.view_is) at c.requires.width in
    rw width (words_fit _ _ _ _ _ _ c.self.invariant.laid c.page_of-number.result (rw (← c.self.view_is) at c.page_of-number.ensures))
