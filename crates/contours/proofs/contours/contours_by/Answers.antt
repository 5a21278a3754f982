use Rattle.std.proofs.Common.{◌∙◌, ℕ, List, [], ◌∷◌, ◌++◌, ap, arith, length, refl, subst, sym}
use Rattle.std.specs.Prelude.{Vec}
use Rattle.std.specs.declared.alloc.Global.{Global}
use Rattle.cost_model.specs.Costing.{costing_tree}
use Rattle.plan_space.specs.SurfacePoints.{surface_points}
use Rattle.plan_space.specs.Surface.{optimal_costs}
use Rattle.bouquet_type.specs.declared.contour.Contour.{Contour}
use Rattle.contours.specs.Lazy.{MakerState}
use Rattle.contours.proofs.Collected.{AreCollected, collected-none, collected-more, collected-all, collected-costing, made-none, made-same}
use Rattle.contours.proofs.Outlined.{AreOutlined, outlined-more}
use Rattle.contours.proofs.contours.contours_by.Goals as goal

pub loop-frontiers-init : goal.loop-frontiers-init
loop-frontiers-init c =
    let outlook = c.args.outlook in
    let costing = costing_tree outlook in
    record {
      collected = subst (λ (contours : List Contour). AreCollected costing c.args.threshold contours c.new-maker.result) (sym c.new-contours.ensures.items)
          (collected-none c.new-maker.result outlook c.args.threshold c.new-maker.ensures.start);
      outlined = subst (λ (frontiers : List (Vec (List ℕ) Global)). AreOutlined costing frontiers c.new-contours.result.items) (sym c.new-frontiers.ensures.items)
          (subst (λ (contours : List Contour). AreOutlined costing [] contours) (sym c.new-contours.ensures.items) refl);
    }

pub loop-frontiers-smaller : goal.loop-frontiers-smaller
loop-frontiers-smaller c =
    let made = rw c.in-Some.is at c.in_ok-found.ensures.made in
    omega (arith, ap length made.1)

pub loop-frontiers-preserved : goal.loop-frontiers-preserved
loop-frontiers-preserved c =
    let costing = costing_tree c.args.outlook in
    let made = rw c.in-Some.is at c.in_ok-found.ensures.made in
    let found = c.in-Some.found in
    let contours = c.loop-frontiers.contours.items in
    let maker = c.loop-frontiers.maker in
    let more =
    collected-more costing c.args.threshold contours found.contour maker c.next.new.self made.0 made.1 c.loop-frontiers.invariant.collected in
    let outlined =
    outlined-more costing c.args.threshold c.loop-frontiers.frontiers.items contours c.in_ok-points.field-0 found maker
    c.loop-frontiers.invariant.collected.whole made.2 (c.in_ok-points.ensures ∙ ap surface_points c.as_slice.ensures.value) c.loop-frontiers.invariant.outlined in
    record {
      collected = subst (λ (contours : List Contour). AreCollected costing c.args.threshold contours c.next.new.self) (sym c.in_ok-push-2.ensures.items) more;
      outlined = subst (λ (all : List Contour). AreOutlined costing c.push.new.self.items all) (sym {A = List Contour} c.in_ok-push-2.ensures.items)
          (subst (λ (all : List (Vec (List ℕ) Global)). AreOutlined costing all (contours ++ found.contour ∷ [])) (sym {A = List (Vec (List ℕ) Global)} c.in_ok-push.ensures.items) outlined);
    }

pub returns-clause-contours : goal.returns-clause-contours
returns-clause-contours c =
    let none = made-none c.loop-frontiers.maker c.next.new.self c.in_ok-found.field-0 c.in_ok-found.ensures.made c.in_default.not-Some in
    collected-all (costing_tree c.args.outlook) c.args.threshold c.loop-frontiers.contours.items c.loop-frontiers.maker c.new-maker.ensures.costing c.requires none
    c.loop-frontiers.invariant.collected

pub returns-clause-outline : goal.returns-clause-outline
returns-clause-outline c =
    let maker = c.loop-frontiers.maker in
    let same = made-same maker c.next.new.self c.in_ok-found.field-0 c.in_ok-found.ensures.made c.in_default.not-Some in
    let costing =
    collected-costing (costing_tree c.args.outlook) c.args.threshold c.loop-frontiers.contours.items maker c.loop-frontiers.invariant.collected in
    record {
      costs = c.in_ok-costs.ensures.costs
          ∙ ap (λ (one : MakerState). optimal_costs (costing_tree one.costing)) same
          ∙ ap optimal_costs costing;
      frontiers = c.loop-frontiers.invariant.outlined;
    }
