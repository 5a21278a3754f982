use Rattle.std.proofs.Common.{◌≡◌, ◌∙◌, ◌≤◌, length, map, ap, subst, sym, arith}
use Rattle.plan_tree.specs.Plans.{plan_tree}
use Rattle.cost_model.specs.Frontier.{frontier}
use Rattle.bouquet_type.specs.Shapes.{BouquetShape, cost_on}
use Rattle.bouquet_type.specs.Trees.{IsBouquet, bouquet_tree}
use Rattle.learned_run.specs.Covering.{FrontiersShape, bare_row, costing_shape}
use Rattle.learned_run.proofs.Stepped.{at-hand}
use Rattle.learned_run.proofs.frontiers.Frontiers.climb_to.Goals as goal

pub invariant_of-self : goal.invariant_of-self
invariant_of-self c =
    let b = c.self-2.inside.bouquet.now in
    let contour = c.index-contours-number.result in
    let rows = c.in_ok-rows.rows.items in
    let seen : c.args.self.now.bouquet ≡ b = sym (ap (λ (f : FrontiersShape). f.bouquet) (c.self-2.view_is ∙ c.in_ok-rows.ensures.same)) in
    let same : c.self.inside.bouquet.now ≡ b = ap (λ (f : FrontiersShape). f.bouquet) c.self.view_is ∙ seen in
    let there : c.args.number ≤ length b.contours =
    omega (arith, c.requires.there, ap (λ (b : BouquetShape). length b.contours) seen) in
    let value = c.deref.ensures.value in
    let costing : c.self.inside.costing.now ≡ costing_shape b = c.self.invariant.0 ∙ ap costing_shape same in
    let percent : c.threshold-threshold.result ≡ b.threshold = c.threshold-threshold.ensures ∙ ap (λ (b : BouquetShape). b.threshold) same in (
      c.self-2.invariant.0,
      c.self-2.invariant.1,
      at-hand b c.args.number c.contours.result.now contour c.in_ok-plans.plans rows (subst IsBouquet same c.contours.ensures.bouquet) (c.contours.ensures.contours ∙ ap (λ (b : BouquetShape). b.contours) same)
          c.index-contours-number.is c.requires.some there
          (c.in_ok-plans.ensures ∙ λ i. record { costing = costing i; plans = map plan_tree (value i); threshold = percent i })
          (subst (λ (b : BouquetShape). rows ≡ map (bare_row (bouquet_tree b).costing) (frontier (bouquet_tree b).costing (cost_on b c.args.number))) seen c.in_ok-rows.ensures.rows),
    )
