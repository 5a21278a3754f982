-- The product with the reciprocal is the quotient.
use Rattle.heap_pages.proofs.CutRows.{length-cut_rows}
use Rattle.std.proofs.Common.{◌≤◌, arith}
use Rattle.heap_pages.proofs.PageStarts.{page_divided, product_fits}
use Rattle.heap_pages.proofs.heap.Heap.page_of.Goals as goal

pub returns : goal.returns
returns c =
    let upto = rw (← c.self.view_is) at c.requires in
    let there : c.args.i ≤ c.self.inside.rows = omega (arith, upto, length-cut_rows c.self.inside.columns c.self.inside.rows c.self.inside.pages.words) in
    rw (← c.self.view_is) (page_divided _ _ _ _ _ _ c.self.invariant.laid c.args.i there)

pub overflow_mul-result : goal.overflow_mul-result
overflow_mul-result c =
    let upto = rw (← c.self.view_is) at c.requires in
    let there : c.args.i ≤ c.self.inside.rows = omega (arith, upto, length-cut_rows c.self.inside.columns c.self.inside.rows c.self.inside.pages.words) in
    omega (arith, product_fits _ _ _ _ _ _ c.self.invariant.laid c.args.i there)
