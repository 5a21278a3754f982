use Rattle.std.proofs.Common.{◌≡◌, ◌∙◌, ap, sym}
use Rattle.plan_tree.specs.Plans.{plan_tree}
use Rattle.cost_model.specs.Costing.{costing_tree}
use Rattle.cost_model.specs.Pricing.{Pricing}
use Rattle.cost_model.specs.Prices.{own_at, sum_of}
use Rattle.cost_model.proofs.Sums.{costs-are-sums}
use Rattle.cost_model.proofs.costing.Costing.cost.Goals as goal

pub returns-clause-cost : goal.returns-clause-cost
returns-clause-cost c =
    let at : Pricing = record { costing = c.args.self.now; point = c.args.q.now } in
    let there : c.new-2.result ≡ at = λ i. record { costing = c.new-2.ensures.costing i; point = c.new-2.ensures.point i } in
    let p = plan_tree c.args.p.now in
    c.sum.ensures.sum ∙ ap (λ one. sum_of (own_at one) p) there ∙ sym (costs-are-sums (costing_tree c.args.self.now) c.args.q.now p c.requires.plan)
