-- A row's page begins no later than the row, and ends behind it.
use Rattle.std.proofs.Common.{◌≡◌, ◌+◌, ◌-◌, ◌*◌, ◌<◌, ◌≤◌, slice_get, sym, ap, ◌/◌, ◌∙◌, arith}
use Rattle.heap_pages.specs.Rows.{rows_per_page}
use Rattle.heap_pages.proofs.PageStarts.{page_around, some_rows}
use Rattle.heap_pages.proofs.heap.Heap.get.Goals as goal

module _ (c : goal.After-self) where
  per_page : c.self.inside.per_page ≡ rows_per_page c.args.self.now.columns
  per_page = c.self.invariant.laid.full_page ∙ ap (λ heap. rows_per_page heap.columns) c.self.view_is

  around : (c.page_of-number.result * c.self.inside.per_page ≤ c.args.i) × (c.args.i < c.page_of-number.result * c.self.inside.per_page + c.self.inside.per_page)
  around =
      page_around c.args.i c.self.inside.per_page c.page_of-number.result (some_rows _ _ _ _ _ _ c.self.invariant.laid)
      (c.page_of-number.ensures ∙ ap (λ n. c.args.i / n) (sym per_page))

  place : c.page_of-number.result * rows_per_page c.args.self.now.columns + (c.args.i - c.page_of-number.result * c.self.inside.per_page) ≡ c.args.i
  place =
      ap (λ n. c.page_of-number.result * n + (c.args.i - c.page_of-number.result * c.self.inside.per_page)) (sym per_page)
      ∙ omega (arith, around.0)

pub overflow_mul-number : goal.overflow_mul-number
overflow_mul-number c = omega (arith, (around c).0, c.ranges.i)

pub overflow_sub-i : goal.overflow_sub-i
overflow_sub-i c = (around c).0

pub row_at-requires : goal.row_at-requires
row_at-requires c = record {
  on_page = omega (arith, around c, per_page c);
  there = omega (arith, place c, c.requires);
}

pub returns : goal.returns
returns c = ap (slice_get c.args.self.now.rows) (sym (place c.before)) ∙ c.row_at.ensures
