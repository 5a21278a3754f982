-- The row is as wide as the table.
use Rattle.std.proofs.Common.{◌≡◌, ◌<◌, [], length, pos, ap, sym, arith, subst, slice_get, Some, w64, FitsSigned, slice_index_or, rules}
use Rattle.std.proofs.lemmas.Int.{to_z-of_z}
use Rattle.std.proofs.lemmas.Option.{get_or_from_slice_get}
use Rattle.heap_pages.specs.Rows.{HeapState}
use Rattle.heap_pages.specs.Spans.{column_word}
use Rattle.heap_pages.proofs.CutRows.{cut_row-wide, length-cut_rows}
use Rattle.heap_pages.proofs.heap.Heap.word_at.Goals as goal

wide : (c : goal.After-get) → c.args.column < length c.get.result.now
wide c =
    let here = subst (λ (heap : HeapState). slice_get heap.rows c.args.i ≡ Some c.get.result.now) (sym c.self.view_is) c.get.ensures in
    let below = subst (λ (heap : HeapState). c.args.i < length heap.rows) (sym c.self.view_is) c.requires.there in
    let width = cut_row-wide c.self.inside.columns c.self.inside.rows c.args.i c.self.inside.pages.words c.get.result.now c.self.invariant.laid.words_fill_rows
    (omega (arith, below, length-cut_rows c.self.inside.columns c.self.inside.rows c.self.inside.pages.words)) here in
    omega (arith, width, c.requires.column, ap (λ (heap : HeapState). heap.columns) c.self.view_is)

pub offset_bounds-get-column : goal.offset_bounds-get-column
offset_bounds-get-column c = omega (arith, wide c, c.get.type_inv)

pub bounds-get-column : goal.bounds-get-column
bounds-get-column c = wide c

pub returns : goal.returns
returns c =
    let fits : FitsSigned w64 (slice_index_or c.get.result.now c.args.column (pos 0)) = search rules in
    simp to_z-of_z (ap (column_word c.args.column) (sym (get_or_from_slice_get c.args.self.now.rows c.args.i c.get.result.now [] c.get.ensures)))
