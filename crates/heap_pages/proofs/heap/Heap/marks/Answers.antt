-- The column has the words of the rows.
use Rattle.std.proofs.Common.{◌≡◌, ◌+◌, ◌<◌, ◌≤◌, ◌*◌, FitsSigned, w64, length, map, take, drop, sym, ap, subst, ◌∙◌, arith}
use Rattle.std.proofs.lemmas.Int.{to_z-of_z}
use Rattle.std.proofs.lemmas.List.Elements.{All-take, All-drop}
use Rattle.narrow_columns.specs.Marks.{is_among, marks_of}
use Rattle.narrow_columns.specs.Rows.{words_of_column}
use Rattle.heap_pages.specs.Rows.{HeapState, Row, cut_rows}
use Rattle.heap_pages.specs.Spans.{HaveColumnWords, column_word, has_among, rows_of_span}
use Rattle.heap_pages.proofs.ColumnWords.{column-fits, kept-words, length-words_of_column, span-among}
use Rattle.heap_pages.proofs.CutRows.{length-cut_rows}
use Rattle.heap_pages.proofs.heap.Heap.marks.Goals as goal

module _ (c : goal.In-Some) where
  inside : c.args.column < c.self.inside.columns
  inside = subst (λ (heap : HeapState). c.args.column < heap.columns) (sym c.self.view_is) c.requires.column

  filled : c.self.inside.rows * c.self.inside.columns ≤ length c.self.inside.pages.words
  filled = omega (arith, c.self.invariant.laid.words_fill_rows)

  words_are : c.in-Some.words.now.words ≡ words_of_column c.self.inside.columns c.args.column c.self.inside.rows c.self.inside.pages.words
  words_are = kept-words c.self.inside.columns c.self.inside.rows c.args.column c.self.inside.pages.words c.self.inside.narrow c.in-Some.words.now c.self.invariant.narrow c.in-Some.ensures

pub marks-requires-clause-there : goal.marks-requires-clause-there
marks-requires-clause-there c =
    let there = subst (λ (heap : HeapState). c.args.span.first + c.args.span.count ≤ length heap.rows) (sym c.self.view_is) c.requires.there in
    omega (
      arith,
      there,
      length-cut_rows c.self.inside.columns c.self.inside.rows c.self.inside.pages.words,
      ap length (words_are c),
      length-words_of_column c.self.inside.columns c.args.column c.self.inside.rows c.self.inside.pages.words,
    )

pub returns-in-Some-clause-marks : goal.returns-in-Some-clause-marks
returns-in-Some-clause-marks c =
    let from = c.ranges.from in
    let to = c.ranges.to in
    let marks = simp to_z-of_z at c.marks.ensures in
    subst (λ (heap : HeapState). c.marks.result ≡ marks_of (map (has_among c.args.column c.args.from c.args.to) (rows_of_span c.args.span heap.rows))) c.self.view_is
    (
    marks
    ∙ ap (λ ws. marks_of (map (is_among c.args.from c.args.to) (take c.args.span.count (drop c.args.span.first ws)))) (words_are c.before)
    ∙ ap marks_of (span-among c.args.from c.args.to c.self.inside.columns c.args.column c.self.inside.rows c.self.inside.pages.words c.args.span (inside c.before) (filled c.before))
    )

pub returns-in-Some-clause-words : goal.returns-in-Some-clause-words
returns-in-Some-clause-words c =
    let rows = cut_rows c.self.inside.columns c.self.inside.rows c.self.inside.pages.words in
    let fits = λ (row : Row). FitsSigned w64 (column_word c.args.column row) in
    subst (λ (heap : HeapState). HaveColumnWords c.args.column (rows_of_span c.args.span heap.rows)) c.self.view_is
    (All-take fits c.args.span.count (drop c.args.span.first rows) (All-drop fits c.args.span.first rows
    (column-fits c.self.inside.columns c.args.column c.self.inside.rows c.self.inside.pages.words (inside c.before) (filled c.before) c.self.invariant.fit)))
