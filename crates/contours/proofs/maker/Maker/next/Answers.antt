use Rattle.std.proofs.Common.{◌≡◌, ◌∙◌, ◌+◌, ◌*◌, ◌<◌, ◌≤◌, [], ◌∷◌, drop, refl, ap, sym, subst, arith}
use Rattle.cost_model.specs.Costing.{CostingShape, CostingTree, costing_tree}
use Rattle.cost_model.specs.Frontier.{frontier}
use Rattle.bouquet_type.specs.Trees.{ContourTree, contour_tree}
use Rattle.bouquet_type.specs.Compiled.{compiled, compiled_contour, contour_count}
use Rattle.contours.specs.Lazy.{IsMaker, MakerState, whole_of, ahead_of}
use Rattle.bouquet_type.proofs.Doubling.{next-cost}
use Rattle.contours.proofs.Count.{cost-few}
use Rattle.contours.proofs.Foot.{next-ahead, none-ahead}
use Rattle.contours.proofs.maker.Maker.next.Goals as goal

pub returns-then-self-clause-made : goal.returns-then-self-clause-made
returns-then-self-clause-made c =
    let m = c.self.inside in
    let all : contour_count (costing_tree m.outlook) ≤ m.made = omega (arith, c.self.invariant.counted, c.if-self.true) in (
      subst (λ (one : MakerState). ahead_of one ≡ []) c.self.view_is (none-ahead (costing_tree m.outlook) m.threshold m.made all),
      refl,
    )

pub contour-requires-clause-cost : goal.contour-requires-clause-cost
contour-requires-clause-cost c =
    let m = c.self.inside in
    let is = c.self.invariant in
    omega (arith, is.next, cost-few (costing_tree m.outlook) (m.made + 1) is.costing (omega arith) (omega (arith, is.made, is.counted, c.if-self.false)))

pub overflow_mul-self : goal.overflow_mul-self
overflow_mul-self c =
    let m = c.self.inside in
    let is = c.self.invariant in
    omega (arith, is.next, cost-few (costing_tree m.outlook) (m.made + 1) is.costing (omega arith) (omega (arith, is.made, is.counted, c.if-self.false)))

pub invariant_of-self-2 : goal.invariant_of-self-2
invariant_of-self-2 c =
    let m = c.self.inside in
    let is = c.self.invariant in
    subst (λ (shape : CostingShape). IsMaker (record { costing = shape; threshold = m.threshold; made = m.made + 1 }) m.count (m.cost * 2)) (sym c.in_ok-found.ensures.same)
    (record {
      costing = is.costing;
      threshold = is.threshold;
      counted = is.counted;
      made = omega (arith, is.made, c.if-self.false);
      next = omega (arith, is.next, next-cost (costing_tree m.outlook) (m.made + 1) (omega arith));
    })

pub returns-clause-made : goal.returns-clause-made
unfolding compiled
returns-clause-made c =
    let m = c.self.inside in
    let is = c.self.invariant in
    let costing : CostingTree = costing_tree m.outlook in
    let more : m.made < contour_count costing = omega (arith, is.made, is.counted, c.if-self.false) in
    let behind = drop (m.made + 1) (compiled costing m.threshold).contours in
    let tree = c.in_ok-found.ensures.contour in
    let same = c.in_ok-found.ensures.same in (
      ap (λ (shape : CostingShape). compiled (costing_tree shape) m.threshold) same ∙ ap whole_of c.self.view_is,
      sym (ap ahead_of c.self.view_is)
          ∙ next-ahead costing m.threshold m.made more
          ∙ ap (λ (one : ContourTree). one ∷ behind) (sym (tree ∙ ap (compiled_contour costing m.threshold) is.next))
          ∙ ap (λ (shape : CostingShape). contour_tree c.in_ok-found.found.contour ∷ drop (m.made + 1) (compiled (costing_tree shape) m.threshold).contours) (sym same),
      c.in_ok-found.ensures.points
          ∙ ap (frontier costing) (sym (ap (λ (one : ContourTree). one.cost) tree))
          ∙ ap (λ (one : MakerState). frontier (whole_of one).costing c.in_ok-found.found.contour.cost) c.self.view_is,
    )
