-- The column has the words of the rows.
use Rattle.std.proofs.Common.{◌≡◌, ◌<◌, ◌≤◌, ◌*◌, length, sym, ap, subst, ◌∙◌, arith}
use Rattle.std.specs.Prelude.{count_by}
use Rattle.std.proofs.lemmas.Int.{to_z-of_z}
use Rattle.narrow_columns.specs.Marks.{is_among}
use Rattle.heap_pages.specs.Rows.{HeapState}
use Rattle.heap_pages.specs.Spans.{HaveColumnWords, has_among}
use Rattle.heap_pages.proofs.ColumnWords.{column-fits, count-among, kept-words}
use Rattle.heap_pages.proofs.heap.Heap.count_in_range.Goals as goal
use Rattle.heap_pages.proofs.heap.Heap.count_in_range.Goals.{In-Some}

module _ (c : In-Some) where
  inside : c.args.column < c.self.inside.columns
  inside = subst (λ (heap : HeapState). c.args.column < heap.columns) (sym c.self.view_is) c.requires

  filled : c.self.inside.rows * c.self.inside.columns ≤ length c.self.inside.pages.words
  filled = omega (arith, c.self.invariant.laid.words_fill_rows)

pub returns-in-Some-clause-count : goal.returns-in-Some-clause-count
returns-in-Some-clause-count c =
    let from = c.ranges.from in
    let to = c.ranges.to in
    let count = simp to_z-of_z at c.count_in_range.ensures in
    let words_are = kept-words c.self.inside.columns c.self.inside.rows c.args.column c.self.inside.pages.words c.self.inside.narrow c.in-Some.words.now c.self.invariant.narrow c.in-Some.ensures in
    subst (λ (heap : HeapState). c.count_in_range.result ≡ count_by (has_among c.args.column c.args.from c.args.to) heap.rows) c.self.view_is
    (
    count ∙ ap (count_by (is_among c.args.from c.args.to)) words_are
    ∙ count-among c.args.from c.args.to c.self.inside.columns c.args.column c.self.inside.rows c.self.inside.pages.words (inside c.before) (filled c.before)
    )

pub returns-in-Some-clause-words : goal.returns-in-Some-clause-words
returns-in-Some-clause-words c =
    subst (λ (heap : HeapState). HaveColumnWords c.args.column heap.rows) c.self.view_is
    (column-fits c.self.inside.columns c.args.column c.self.inside.rows c.self.inside.pages.words (inside c.before) (filled c.before) c.self.invariant.fit)

pub returns-in-None-clause-count : goal.returns-in-None-clause-count
returns-in-None-clause-count c =
    let from = c.ranges.from in
    let to = c.ranges.to in
    simp to_z-of_z at c.count_on_pages.ensures.count
