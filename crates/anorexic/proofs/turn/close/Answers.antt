use Rattle.std.proofs.Common.{ap, arith, sym, subst, ◌∙◌, ◌<◌, ◌≤◌, length}
use Rattle.std.specs.Prelude.{Bool, ℕ, not}
use Rattle.std.proofs.lemmas.List.Filters.{FiltersInPlace-all, FiltersInPlace-more_set, FiltersInPlace-more_no}
use Rattle.anorexic.specs.Turns.{is_marked, AreCoverCounts, IsCoverRow}
use Rattle.anorexic.proofs.Steps.{kept-all, kept-more, row-counted, row-subtracted, row-there, still-there}
use Rattle.anorexic.proofs.turn.close.Goals as goal
use Rattle.anorexic.proofs.turn.close.Goals.{then-row-candidate, else-row-candidate}

pub row_at-row-requires : goal.row_at-row-requires
row_at-row-requires c =
    row-there c.args.table.now c.args.width (λ place. not (is_marked c.args.table.now c.args.width c.args.candidate place)) c.args.uncovered.now.items c.loop-i.uncovered.items c.loop-i.kept c.loop-i.i c.index-place.result.now
    c.requires.rows c.loop-i.invariant.0 (omega arith) c.index-place.ensures

pub subtract_point-requires-clause-counted : goal.subtract_point-requires-clause-counted
subtract_point-requires-clause-counted c =
    let table = c.args.table.now in
    let test : ℕ → Bool = λ place. not (is_marked table c.args.width c.args.candidate place) in
    let xs = c.args.uncovered.now.items in
    let place = c.index-place.result.now in
    let row = c.row_at-row.result.now in
    let (kept, counted, long) = c.loop-i.invariant in
    let at = c.index-place.ensures ∙ still-there test xs c.loop-i.uncovered.items c.loop-i.kept c.loop-i.i place kept in
    let closed = ap not (sym (c.row_at-row.ensures.tests c.args.candidate c.requires.candidate) ∙ c.if-row-candidate.true) in
    row-counted test table row xs c.loop-i.counts c.loop-i.i place (omega (arith, kept.long)) at closed
    (subst (λ width. IsCoverRow table width place row) (sym long) c.row_at-row.ensures) counted

pub loop-i-preserved : goal.loop-i-preserved
loop-i-preserved c =
    let table = c.args.table.now in
    let test : ℕ → Bool = λ place. not (is_marked table c.args.width c.args.candidate place) in
    let xs = c.args.uncovered.now.items in
    let i = c.loop-i.i in
    let place = c.index-place.result.now in
    let row = c.row_at-row.result.now in
    let (kept, counted, long) = c.loop-i.invariant in
    let less : i < length xs = omega (arith, kept.long) in
    let at = c.index-place.ensures ∙ still-there test xs c.loop-i.uncovered.items c.loop-i.kept i place kept in
    let marked = sym (c.row_at-row.ensures.tests c.args.candidate c.requires.candidate) in
    elim c.if-row-candidate.branch [
      | then-row-candidate w ↦
          rw (w.uncovered-is, w.kept-is, w.counts-is) (
            FiltersInPlace-more_no kept (omega arith) (ap not (marked ∙ w.if-row-candidate.true)) c.index-place.ensures,
            row-subtracted test table row xs c.loop-i.counts w.subtract_point.new.counts i place less at (ap not (marked ∙ w.if-row-candidate.true))
                (subst (λ width. IsCoverRow table width place row) (sym long) c.row_at-row.ensures) counted w.subtract_point.ensures.subtracted w.subtract_point.ensures.long,
            w.subtract_point.ensures.long ∙ long,
          )
      | else-row-candidate w ↦
          rw (w.uncovered-is, w.kept-is, w.counts-is) (
            FiltersInPlace-more_set kept (omega arith) (ap not (marked ∙ w.if-row-candidate.false)) c.index-place.ensures,
            subst (λ places. AreCoverCounts table places c.loop-i.counts) (sym (kept-more test xs i place less (ap test (sym at) ∙ ap not (marked ∙ w.if-row-candidate.false)))) counted,
            long,
          )
    ]

pub returns-clause-counts : goal.returns-clause-counts
returns-clause-counts c =
    let table = c.args.table.now in
    let test : ℕ → Bool = λ place. not (is_marked table c.args.width c.args.candidate place) in
    let xs = c.args.uncovered.now.items in
    let (kept, counted, long) = c.loop-i.invariant in
    let whole : length xs ≤ c.loop-i.i = omega (arith, kept.long, kept.within, c.loop-i-test.false) in
    let left = c.truncate.ensures.items ∙ FiltersInPlace-all kept whole in
    subst (λ places. AreCoverCounts table places c.loop-i.counts) (kept-all test xs c.loop-i.i whole ∙ sym left) counted
