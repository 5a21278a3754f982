-- The page has room, and words at its end are words at the end of all pages.
use Rattle.std.proofs.Common.{ℤ, ◌<◌, List, length, ap, arith}
use Rattle.heap_pages.proofs.Packed.{words_on_page, memory_of_page, words-appended, ArePackedPages-appended}
use Rattle.heap_pages.proofs.pages.Pages.append.Goals as goal

pub unreachable-requires : goal.unreachable-requires
unreachable-requires c =
    let below = rw (← c.self.view_is) at c.requires.last.there in
    let begun = rw (← c.self.view_is) at c.requires.last.begun in
    let fits = rw (← c.self.view_is) at c.requires.fits in
    let there : c.args.number < length c.self.inside.pages.items = omega (arith, below, c.self.inside.pages.ok.0) in
    let here = words_on_page _ _ c.self.invariant c.args.number c.index_mut.result.now c.index_mut.ensures.value there in
    let memory = memory_of_page _ _ c.self.invariant c.args.number c.index_mut.result.now c.index_mut.ensures.value there in
    let full = c.in_default.ensures.full in
    omega (arith, begun, fits, here, memory, full, c.index_mut.result.now.ok.0)

pub invariant_of-self : goal.invariant_of-self
invariant_of-self c =
    let below = rw (← c.self.view_is) at c.requires.last.there in
    let begun = rw (← c.self.view_is) at c.requires.last.begun in
    let fits = rw (← c.self.view_is) at c.requires.fits in
    let there : c.args.number < length c.self.inside.pages.items = omega (arith, below, c.self.inside.pages.ok.0) in
    ArePackedPages-appended _ _ c.self.invariant c.args.number c.index_mut.result.now c.index_mut.ensures.value there
    c.extend_from_slice.new.self c.args.more.now c.in-Ok.ensures.items begun fits c.in-Ok.ensures.capacity

pub returns : goal.returns
returns c =
    let below = rw (← c.self.view_is) at c.requires.last.there in
    let begun = rw (← c.self.view_is) at c.requires.last.begun in
    let fits = rw (← c.self.view_is) at c.requires.fits in
    let there : c.args.number < length c.self.inside.pages.items = omega (arith, below, c.self.inside.pages.ok.0) in
    let words = words-appended _ _ c.self.invariant c.args.number c.index_mut.result.now c.index_mut.ensures.value there
    c.extend_from_slice.new.self c.args.more.now c.in-Ok.ensures.items begun fits in
    rw (← c.self.view_is) (ap (λ (all : List ℤ). record { size = c.self.inside.size; words = all; count = c.self.inside.pages.len }) words)
