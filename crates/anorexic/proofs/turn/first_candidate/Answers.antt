use Rattle.std.proofs.Common.{ℕ, ◌≡◌, ◌<◌, ◌+◌, length, get_or, arith, ap, subst, sym, ◌∙◌}
use Rattle.std.specs.Prelude.{false, count_by}
use Rattle.std.specs.Ordering.{is_gt}
use borrow.Author.Count.{below_more}
use Rattle.anorexic.specs.Turns.{is_marked, turn_order}
use Rattle.anorexic.proofs.Steps.{counted-at, first-itself, turn-order-is, next-first}
use Rattle.anorexic.proofs.turn.first_candidate.Goals as goal
use Rattle.anorexic.proofs.turn.first_candidate.Goals.{then-is_gt, else-is_gt}

pub loop-candidate-init : goal.loop-candidate-init
loop-candidate-init c =
    let counted = counted-at c.args.candidates.now c.args.table.now c.args.uncovered.now c.args.counts.now c.requires.long c.requires.counts 0 c.requires.some in
    (omega arith, counted, first-itself c.args.candidates.now c.args.table.now c.args.uncovered.now)

pub loop-candidate-preserved : goal.loop-candidate-preserved
loop-candidate-preserved c =
    let candidates = c.args.candidates.now in
    let table = c.args.table.now in
    let uncovered = c.args.uncovered.now in
    let first = c.loop-candidate.first in
    let candidate = c.loop-candidate.candidate in
    let order = turn_order candidates table uncovered in
    let (within, most, least) = c.loop-candidate.invariant in
    let few : candidate < length candidates = omega arith in
    let counted = counted-at candidates table uncovered c.args.counts.now c.requires.long c.requires.counts candidate few in
    let same = turn-order-is candidates table uncovered first candidate c.loop-candidate.most (get_or c.args.counts.now candidate 0)
    c.index-candidates-first.result c.index-candidates-candidate.result (omega (arith, within, few)) few c.index-candidates-first.is c.index-candidates-candidate.is most counted in
    let compared = c.is_gt.ensures ∙ ap is_gt (c.cover_order.ensures ∙ same) in
    let family : ℕ → ℕ → Type 0 = λ one count.
    (one < candidate + 1) × (count ≡ count_by (is_marked table (length candidates) one) uncovered) × ((other : ℕ) → other < candidate + 1 → is_gt (order one other) ≡ false) in
    elim c.if-is_gt.branch [
      | then-is_gt w ↦
          subst (λ one. family one c.if-is_gt.most) (sym w.first-is) (subst (family candidate) (sym w.most-is)
          (omega arith, counted, next-first candidates table uncovered first candidate (sym compared ∙ w.if-is_gt.true) least))
      | else-is_gt w ↦
          subst (λ one. family one c.if-is_gt.most) (sym w.first-is) (subst (family first) (sym w.most-is)
          (omega (arith, within), most, below_more (λ other. is_gt (order first other) ≡ false) candidate least (sym compared ∙ w.if-is_gt.false)))
    ]
