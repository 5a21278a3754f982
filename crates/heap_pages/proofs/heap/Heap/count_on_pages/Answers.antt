-- One row more.
use Rattle.std.proofs.Common.{Bool, ◌≡◌, ◌+◌, ◌<◌, [], length, take, ap, ◌∙◌, arith, FitsSigned, w64, get_or, subst, cond, rules, to_z, of_z}
use Rattle.std.specs.Prelude.{count_by}
use Rattle.std.proofs.lemmas.Int.{to_z-of_z}
use Rattle.std.proofs.lemmas.List.{length-take, take_all}
use Rattle.std.proofs.lemmas.List.Elements.{All-more}
use Rattle.std.proofs.lemmas.List.Sums.{count_by-le-length}
use Rattle.narrow_columns.specs.Marks.{is_among}
use Rattle.heap_pages.specs.Rows.{Row}
use Rattle.heap_pages.specs.Spans.{HaveColumnWords, has_among, column_word}
use Rattle.heap_pages.proofs.MarkedRows.{count-more}
use Rattle.heap_pages.proofs.heap.Heap.count_on_pages.Goals as goal

module _ (c : goal.After-mark-count) where
  abbrev p : Row → Bool
  p = has_among c.args.column (to_z w64 (of_z w64 c.args.from)) (to_z w64 (of_z w64 c.args.to))

  below : c.loop-i.i < length c.args.self.now.rows
  below = omega (arith, c.loop-i-test.true, c.rows-i-end.ensures.count)

  fits : FitsSigned w64 c.word_at.result
  fits = search rules

  marked : c.mark-count.result ≡ cond (p (get_or c.args.self.now.rows c.loop-i.i [])) 1 0
  marked = c.mark-count.ensures
      ∙ ap (λ w. cond (is_among (to_z w64 (of_z w64 c.args.from)) (to_z w64 (of_z w64 c.args.to)) w) 1 0) (to_z-of_z w64 c.word_at.result fits ∙ c.word_at.ensures)

  counted : c.loop-i.count + c.mark-count.result ≡ count_by p (take (c.loop-i.i + 1) c.args.self.now.rows)
  counted = omega (arith, marked, c.loop-i.invariant.count, count-more p c.args.self.now.rows c.loop-i.i [] below)

pub loop-i-preserved : goal.loop-i-preserved
loop-i-preserved c = record {
  count = counted c;
  words = All-more (λ (row : Row). FitsSigned w64 (column_word c.args.column row)) c.args.self.now.rows c.loop-i.i [] (below c) c.loop-i.invariant.words (subst (FitsSigned w64) c.word_at.ensures (fits c));
}

pub overflow_add-count : goal.overflow_add-count
overflow_add-count c = omega (arith, counted c, count_by-le-length (p c) (take (c.loop-i.i + 1) c.args.self.now.rows), length-take (c.loop-i.i + 1) c.args.self.now.rows, c.rows-i-end.ensures)

pub returns : goal.returns
returns c =
    let from = c.ranges.from in
    let to = c.ranges.to in
    let all = take_all c.loop-i.i c.args.self.now.rows (omega (arith, c.loop-i-test.false, c.rows-i-end.ensures.count)) in
    record {
      count = c.loop-i.invariant.count ∙ simp to_z-of_z (ap (count_by (has_among c.args.column c.args.from c.args.to)) all);
      words = subst (HaveColumnWords c.args.column) all c.loop-i.invariant.words;
    }
