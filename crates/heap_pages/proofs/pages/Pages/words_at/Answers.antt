-- The words of a page are words of all pages at its place.
use Rattle.std.proofs.Common.{length, ap, arith}
use Rattle.heap_pages.proofs.Packed.{page_there, words_on_page, words_at_place}
use Rattle.heap_pages.proofs.pages.Pages.words_at.Goals as goal

pub index-requires : goal.index-requires
index-requires c =
    let upto = rw (← c.self.view_is) at c.requires.there in
    let there = page_there _ _ c.self.invariant c.args.number (omega (arith, upto)) in
    omega (arith, there, c.self.inside.pages.ok.0)

pub part-requires : goal.part-requires
part-requires c =
    let upto = rw (← c.self.view_is) at c.requires.there in
    let within = rw (← c.self.view_is) at c.requires.on_page in
    let there = page_there _ _ c.self.invariant c.args.number (omega (arith, upto)) in
    omega (arith, upto, within, words_on_page _ _ c.self.invariant c.args.number c.index.result.now c.index.ensures there, ap length c.deref.ensures.value)

pub returns : goal.returns
returns c =
    let upto = rw (← c.self.view_is) at c.requires.there in
    let within = rw (← c.self.view_is) at c.requires.on_page in
    let there = page_there _ _ c.self.invariant c.args.number (omega (arith, upto)) in
    rw (← c.self.view_is, c.part.ensures, c.deref.ensures.value)
    (words_at_place _ _ c.self.invariant c.args.number c.index.result.now c.index.ensures there c.args.start c.args.width within upto)
