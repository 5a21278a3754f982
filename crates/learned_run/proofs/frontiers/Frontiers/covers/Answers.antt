use Rattle.std.proofs.Common.{◌≡◌, subst}
use Rattle.std.specs.Prelude.{Bool, IfOk, Option, Some}
use Rattle.bouquet_type.specs.Trees.{bouquet_tree}
use Rattle.learned_run.specs.Covering.{AreAtHand, FrontiersShape, TriedShape}
use Rattle.learned_run.proofs.Stepped.{at-hand-still, step-among, step-covers}
use Rattle.learned_run.proofs.frontiers.Frontiers.covers.Goals as goal

pub any_row_covers-requires-clause-place : goal.any_row_covers-requires-clause-place
any_row_covers-requires-clause-place c =
    let m = c.self.inside in
    let held = subst (λ (plans : Option TriedShape). AreAtHand (bouquet_tree m.bouquet.now) m.number plans m.rows.items) c.in-Some.is c.self.invariant.2 in
    let are = subst (λ (f : FrontiersShape). AreAtHand (bouquet_tree f.bouquet) f.number (Some c.in-Some.plans) m.rows.items) c.self.view_is held in
    step-among (bouquet_tree c.args.self.now.bouquet) c.args.step c.args.budget c.args.self.now.number c.in-Some.plans m.rows.items c.requires.member c.requires.at are

pub invariant_of-self : goal.invariant_of-self
invariant_of-self c =
    let m = c.self.inside in
    let held = subst (λ (plans : Option TriedShape). AreAtHand (bouquet_tree m.bouquet.now) m.number plans m.rows.items) c.in-Some.is c.self.invariant.2 in (
      c.self.invariant.0,
      c.self.invariant.1,
      at-hand-still (bouquet_tree m.bouquet.now) m.number c.in-Some.plans c.any_row_covers.new.self m.rows.items c.any_row_covers.new.rows.items held
          c.any_row_covers.ensures.same c.any_row_covers.ensures.rows c.any_row_covers.ensures.points,
    )

pub returns-in-Some-clause-covers : goal.returns-in-Some-clause-covers
returns-in-Some-clause-covers c =
    let m = c.self.inside in
    let held = subst (λ (plans : Option TriedShape). AreAtHand (bouquet_tree m.bouquet.now) m.number plans m.rows.items) c.in-Some.is c.self.invariant.2 in
    let are = subst (λ (f : FrontiersShape). AreAtHand (bouquet_tree f.bouquet) f.number (Some c.in-Some.plans) m.rows.items) c.self.view_is held in
    subst (λ (tells : Bool). IfOk c.any_row_covers.result (λ covers. covers ≡ tells))
    (step-covers (bouquet_tree c.args.self.now.bouquet) c.args.step c.args.budget c.args.self.now.number c.in-Some.plans m.rows.items c.requires.member c.requires.at are c.args.point.now)
    c.any_row_covers.ensures.covers
