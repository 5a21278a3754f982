use Rattle.std.proofs.Common.{◌∙◌, subst, arith}
use Rattle.std.proofs.lemmas.List.Elements.{All-set}
use Rattle.learned_run.specs.Covering.{IsTriedRow, TriedShape}
use Rattle.learned_run.proofs.Looked.{points-stay, one-covers, none-covers}
use Rattle.learned_run.proofs.tried.TriedPlans.any_row_covers.Goals as goal

pub returns-in_err-row_covers-clause-points : goal.returns-in_err-row_covers-clause-points
returns-in_err-row_covers-clause-points c =
    points-stay c.args.rows.now.items c.loop-at.rows.items c.loop-at.at c.index_mut.result.now c.row_covers.new.row c.index_mut.ensures.value c.in_err-row_covers.ensures.point c.loop-at.invariant.points

pub returns-then-branch-clause-points : goal.returns-then-branch-clause-points
returns-then-branch-clause-points c =
    points-stay c.args.rows.now.items c.loop-at.rows.items c.loop-at.at c.index_mut.result.now c.row_covers.new.row c.index_mut.ensures.value c.in_ok-row_covers.ensures.point c.loop-at.invariant.points

pub returns-then-branch-clause-covers : goal.returns-then-branch-clause-covers
returns-then-branch-clause-covers c =
    one-covers c.args.self.now c.loop-at.self c.loop-at.invariant.same c.args.place c.args.point.now c.args.rows.now.items c.loop-at.rows.items c.loop-at.at c.index_mut.result.now
    (omega (arith, c.loop-at-test.true, c.loop-at.auto.at-end, c.len-at-end.ensures)) c.index_mut.ensures.value c.loop-at.invariant.points c.in_ok-row_covers.field-0 c.in_ok-row_covers.ensures.covers c.if-branch.true

pub loop-at-preserved : goal.loop-at-preserved
loop-at-preserved c =
    let first = c.args.self.now in
    let now = c.loop-at.self in
    let same = c.loop-at.invariant.same in
    let row = c.row_covers.new.row in
    record {
      same = c.in_ok-row_covers.ensures.same ∙ same;
      rows = All-set (IsTriedRow first) c.loop-at.rows.items c.loop-at.at row (subst (λ (tried : TriedShape). IsTriedRow tried row) same c.in_ok-row_covers.ensures.row) c.loop-at.invariant.rows;
      points = points-stay c.args.rows.now.items c.loop-at.rows.items c.loop-at.at c.index_mut.result.now c.row_covers.new.row c.index_mut.ensures.value c.in_ok-row_covers.ensures.point
          c.loop-at.invariant.points;
      none = none-covers first now same c.args.place c.args.point.now c.args.rows.now.items c.loop-at.rows.items c.loop-at.at c.index_mut.result.now
          (omega (arith, c.loop-at-test.true, c.loop-at.auto.at-end, c.len-at-end.ensures)) c.index_mut.ensures.value c.loop-at.invariant.points c.in_ok-row_covers.field-0 c.in_ok-row_covers.ensures.covers c.if-branch.false c.loop-at.invariant.none;
    }
