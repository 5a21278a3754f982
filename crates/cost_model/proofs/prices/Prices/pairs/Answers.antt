use Rattle.std.proofs.Common.{◌≡◌, bit_and, sym, subst, arith}
use Rattle.cost_model.proofs.Pairs.{set-pairs-few}
use Rattle.cost_model.proofs.prices.Prices.pairs.Goals as goal

pub overflow_mul-result : goal.overflow_mul-result
overflow_mul-result c =
    let apart = subst (λ right. bit_and c.args.left right ≡ 0) (sym c.without.ensures) c.requires.split.apart in
    let few = set-pairs-few c.args.self.now.costing c.args.self.now.point c.args.left c.without.result _ _ c.card.ensures.costing apart c.card.ensures.card c.card-2.ensures.card in
    omega (arith, few)

pub returns-clause-few : goal.returns-clause-few
returns-clause-few c =
    let apart = subst (λ right. bit_and c.args.left right ≡ 0) (sym c.without.ensures) c.requires.split.apart in
    set-pairs-few c.args.self.now.costing c.args.self.now.point c.args.left c.without.result _ _ c.card.ensures.costing apart c.card.ensures.card c.card-2.ensures.card
