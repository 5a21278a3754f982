use Rattle.std.proofs.Common.{◌≡◌, ◌∙◌, refl, sym}
use Rattle.std.specs.Prelude.{true, false}
use Rattle.learned_run.specs.Skips.{is_at_or_below}
use Rattle.learned_run.proofs.AtOrBelow.{below-told}
use Rattle.learned_run.proofs.tried.TriedPlans.row_covers.Goals as goal

pub returns-then-not-below-clause-covers : goal.returns-then-not-below-clause-covers
returns-then-not-below-clause-covers c =
    let above : is_at_or_below c.args.point.now c.args.row.now.point ≡ false = sym (below-told c.below.result c.args.point.now c.args.row.now.point c.below.ensures) ∙ c.if-not-below.true in
    rw above refl

pub returns-clause-covers : goal.returns-clause-covers
returns-clause-covers c =
    let above : is_at_or_below c.args.point.now c.args.row.now.point ≡ true = sym (below-told c.below.result c.args.point.now c.args.row.now.point c.below.ensures) ∙ c.if-not-below.false in
    rw above c.covers.ensures.covers
