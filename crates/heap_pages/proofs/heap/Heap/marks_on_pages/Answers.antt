-- One row more, before those that are marked.
use Rattle.std.proofs.Common.{Bool, ◌≡◌, List, ◌≤◌, ◌+◌, ◌-◌, ◌^◌, ◌<◌, ◌∷◌, [], drop, map, ap, sym, ◌∙◌, arith, FitsSigned, w64, get_or, subst, cond, rules, to_z, of_z}
use Rattle.std.proofs.lemmas.Int.{to_z-of_z}
use Rattle.std.proofs.lemmas.List.Elements.{All-cons}
use Rattle.narrow_columns.specs.Marks.{is_among, marks_of}
use Rattle.heap_pages.specs.Rows.{Row}
use Rattle.heap_pages.specs.Spans.{HaveColumnWords, has_among, rows_of_span, column_word}
use Rattle.heap_pages.proofs.MarkedRows.{drop-span, mark-le, length-drop-span, marks_of-short}
use Rattle.heap_pages.proofs.heap.Heap.marks_on_pages.Goals as goal

module _ (c : goal.After-word_at-word) where
  abbrev p : Row → Bool
  p = has_among c.args.column (to_z w64 (of_z w64 c.args.from)) (to_z w64 (of_z w64 c.args.to))

  small : c.loop-left.marks < 2 ^ 63
  small =
      let short = length-drop-span c.args.span c.args.self.now.rows c.loop-left.left in
      rw c.loop-left.invariant.marks (marks_of-short p (drop c.loop-left.left (rows_of_span c.args.span c.args.self.now.rows)) (omega (arith, short, c.requires.few, c.loop-left-test.true)))

module _ (c : goal.After-mark) where
  abbrev row : Row
  row = get_or c.args.self.now.rows (c.args.span.first + (c.loop-left.left - 1)) []

  fits : FitsSigned w64 c.word_at-word.result
  fits = search rules

  marked : c.mark.result ≡ cond (p c.before row) 1 0
  marked = c.mark.ensures
      ∙ ap (λ w. cond (is_among (to_z w64 (of_z w64 c.args.from)) (to_z w64 (of_z w64 c.args.to)) w) 1 0) (to_z-of_z w64 c.word_at-word.result fits ∙ c.word_at-word.ensures)

  next : drop (c.loop-left.left - 1) (rows_of_span c.args.span c.args.self.now.rows) ≡ row ∷ drop c.loop-left.left (rows_of_span c.args.span c.args.self.now.rows)
  next =
      let up : c.loop-left.left - 1 + 1 ≡ c.loop-left.left = omega (arith, c.loop-left-test.true) in
      drop-span c.args.span c.args.self.now.rows (c.loop-left.left - 1) [] (omega (arith, c.loop-left-test.true, c.loop-left.invariant.fits)) c.requires.there
      ∙ ap (λ k. row ∷ drop k (rows_of_span c.args.span c.args.self.now.rows)) up

pub overflow_mul-marks : goal.overflow_mul-marks
overflow_mul-marks c = omega (arith, small c)

pub overflow_add-marks : goal.overflow_add-marks
overflow_add-marks c =
    let least : cond (p c.before (row c)) 1 0 ≤ 1 = mark-le (p c.before (row c)) in
    omega (arith, small c.before, marked c, least)

pub loop-left-preserved : goal.loop-left-preserved
loop-left-preserved c = record {
  fits = omega (arith, c.loop-left.invariant.fits);
  marks =
      let all = ap (λ (rows : List Row). marks_of (map (p c.before) rows)) (next c) in
      omega (arith, all, marked c, c.loop-left.invariant.marks);
  words = subst (HaveColumnWords c.args.column) (sym (next c)) (All-cons (λ (row : Row). FitsSigned w64 (column_word c.args.column row)) (row c) (drop c.loop-left.left (rows_of_span c.args.span c.args.self.now.rows)) (subst (FitsSigned w64) c.word_at-word.ensures (fits c)) c.loop-left.invariant.words);
}
