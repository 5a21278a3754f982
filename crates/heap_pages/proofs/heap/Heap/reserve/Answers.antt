-- Rows past the limit are refused, and where memory runs out, all stays as it was.
use Rattle.std.proofs.Common.{◌+◌, length, sym, ap, subst, ◌∙◌, arith}
use Rattle.heap_pages.specs.Columns.{AreHeapParts}
use Rattle.heap_pages.specs.Layout.{PagesState}
use Rattle.heap_pages.specs.Rows.{HeapState, cut_rows}
use Rattle.heap_pages.proofs.CutRows.{length-cut_rows}
use Rattle.heap_pages.proofs.Refusals.{limit_kept, limit_of_memory, limit_told, unchanged_on}
use Rattle.heap_pages.proofs.heap.Heap.reserve.Goals as goal

pub returns-then-value-gt-MAX_ROWS-clause-limit : goal.returns-then-value-gt-MAX_ROWS-clause-limit
returns-then-value-gt-MAX_ROWS-clause-limit c =
    let count = ap (λ (heap : HeapState). length heap.rows) (sym c.self.view_is) ∙ length-cut_rows c.self.inside.columns c.self.inside.rows c.self.inside.pages.words in
    limit_told (length c.args.self.now.rows + c.args.n) (c.self.inside.rows + c.args.n) (omega (arith, count)) (omega (arith, count, c.if-value-gt-MAX_ROWS.true))

pub invariant_of-self : goal.invariant_of-self
invariant_of-self c =
    subst (λ (pages : PagesState). AreHeapParts c.self.inside.columns c.self.inside.per_page c.self.inside.reciprocal c.self.inside.rows c.self.inside.spare pages c.self.inside.narrow)
    (sym c.in_err-reach.ensures.unchanged) c.self.invariant

pub returns-in_err-reach-clause-reserved : goal.returns-in_err-reach-clause-reserved
returns-in_err-reach-clause-reserved c =
    unchanged_on _ _ _ c.from_residual.result c.from_residual.ensures.1
    (ap (λ (pages : PagesState). record { columns = c.self.inside.columns; rows = cut_rows c.self.inside.columns c.self.inside.rows pages.words; spare = c.self.inside.spare }) c.in_err-reach.ensures.unchanged ∙ c.self.view_is)

pub returns-in_err-reach-clause-limit : goal.returns-in_err-reach-clause-limit
returns-in_err-reach-clause-limit c =
    let count = ap (λ (heap : HeapState). length heap.rows) (sym c.self.view_is) ∙ length-cut_rows c.self.inside.columns c.self.inside.rows c.self.inside.pages.words in
    limit_of_memory (length c.args.self.now.rows + c.args.n) c.from_residual.result (omega (arith, count, c.if-value-gt-MAX_ROWS.false)) c.from_residual.ensures.1

pub returns-in_ok-reach-clause-limit : goal.returns-in_ok-reach-clause-limit
returns-in_ok-reach-clause-limit c =
    let count = ap (λ (heap : HeapState). length heap.rows) (sym c.self.view_is) ∙ length-cut_rows c.self.inside.columns c.self.inside.rows c.self.inside.pages.words in
    limit_kept (length c.args.self.now.rows + c.args.n) tt (omega (arith, count, c.if-value-gt-MAX_ROWS.false))

pub returns-else-n-self-clause-limit : goal.returns-else-n-self-clause-limit
returns-else-n-self-clause-limit c =
    let count = ap (λ (heap : HeapState). length heap.rows) (sym c.self.view_is) ∙ length-cut_rows c.self.inside.columns c.self.inside.rows c.self.inside.pages.words in
    limit_kept (length c.args.self.now.rows + c.args.n) tt (omega (arith, count, c.if-value-gt-MAX_ROWS.false))
