-- The last page with words has what the pages before it don't have.
use Rattle.std.proofs.Common.{◌<◌, length, arith}
use Rattle.heap_pages.proofs.Packed.{words_on_page}
use Rattle.heap_pages.proofs.pages.Pages.filled.Goals as goal

pub returns : goal.returns
returns c =
    let below = rw (← c.self.view_is) at c.requires.there in
    let begun = rw (← c.self.view_is) at c.requires.begun in
    let last = rw (← c.self.view_is) at c.requires.last in
    let there : c.args.number < length c.self.inside.pages.items = omega (arith, below, c.self.inside.pages.ok.0) in
    let here = words_on_page _ _ c.self.invariant c.args.number c.index.result.now c.index.ensures there in
    rw (← c.self.view_is) (omega (arith, begun, last, here, c.len.ensures, c.index.result.now.ok.0))
