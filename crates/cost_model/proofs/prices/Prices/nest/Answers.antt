use Rattle.std.proofs.Common.{◌≡◌, ◌≤◌, ◌^◌, ◌∙◌, bit_and, ap, subst, sym}
use Rattle.plan_tree.specs.Work.{nest_work}
use Rattle.cost_model.specs.Prices.{own_cost, card_at}
use Rattle.cost_model.proofs.Bounds.{nest-few, not-capped}
use Rattle.cost_model.proofs.Pairs.{set-pairs-few}
use Rattle.cost_model.proofs.prices.Prices.nest.Goals as goal

pub returns : goal.returns
unfolding own_cost
returns c =
    let at = c.args.self.now in
    let right = c.card-right.ensures.card ∙ ap (card_at at) c.without.ensures in
    let apart = subst (λ other. bit_and c.args.left other ≡ 0) (sym c.without.ensures) c.requires.split.apart in
    let pairs = set-pairs-few at.costing at.point c.args.left c.without.result _ _ c.card.ensures.costing apart c.card.ensures.card c.card-right.ensures.card in
    let few = nest-few c.card.result c.card-right.result c.card-2.result c.card-right.ensures.few pairs c.card-2.ensures.few in
    let exact = not-capped _ _ c.nest.ensures few in
    record {
      own = exact ∙ λ i. nest_work (c.card.ensures.card i) (right i) (c.card-2.ensures.card i);
      bound = subst (λ n. n ≤ 2 ^ 108) (sym exact) few;
    }
