-- The words of a row that is there are there.
use Rattle.std.proofs.Common.{◌+◌, ◌*◌, ◌<◌, arith}
use Rattle.heap_pages.proofs.CutRows.{length-cut_rows, row_end}
use Rattle.heap_pages.proofs.PageStarts.{words_before}
use Rattle.heap_pages.proofs.heap.Heap.row_at.Goals as goal

pub words_at-requires-clause-there : goal.words_at-requires-clause-there
words_at-requires-clause-there c =
    let there = rw (← c.self.view_is) at c.requires.there in
    let count = length-cut_rows c.self.inside.columns c.self.inside.rows c.self.inside.pages.words in
    let below : c.args.number * c.self.inside.per_page + c.args.slot < c.self.inside.rows = rw c.self.invariant.laid.full_page (omega (arith, there, count)) in
    let ends = row_end (c.args.number * c.self.inside.per_page + c.args.slot) c.self.inside.rows c.self.inside.columns below in
    let place = words_before c.args.number c.self.inside.per_page c.args.slot c.self.inside.columns c.self.inside.pages.size c.self.invariant.laid.whole_rows in
    omega (arith, place, ends, c.self.invariant.laid.words_fill_rows)
