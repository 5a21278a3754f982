use Rattle.std.proofs.Common.{ℕ, ◌≡◌, ◌∙◌, ◌*◌, ◌+◌, map, ap, arith}
use Rattle.std.specs.Prelude.{nat_le}
use Rattle.std.proofs.lemmas.Grind.{common_steps}
use Rattle.cost_model.specs.Costing.{costing_tree}
use Rattle.cost_model.specs.Costs.{cost_of}
use Rattle.plan_space.specs.CostedPlans.{CostedPlansShape}
use Rattle.anorexic.specs.Turns.{cover_row}
use Rattle.anorexic.proofs.cover.add_point.Goals as goal

pub returns-clause-row : goal.returns-clause-row
returns-clause-row c =
    let at = c.args.at.now in
    let plans = c.args.plans.now in
    let row = λ (costed : CostedPlansShape) (cost : ℕ). map (λ p. nat_le (100 * cost_of (costing_tree costed.costing) p at.point) ((100 + c.args.threshold) * cost)) costed.plans in
    let same : c.fill_row.new.row ≡ cover_row (costing_tree plans.costing) c.args.threshold plans.plans at.point =
    c.fill_row.ensures ∙ ap (λ (costed : CostedPlansShape). row costed at.cost) c.cost_at.ensures ∙ ap (row plans) c.requires.point.cost in
    grind (arith, common_steps, same, c.extend_from_slice.ensures.items)
