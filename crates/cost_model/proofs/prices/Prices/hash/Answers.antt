use Rattle.std.proofs.Common.{◌≤◌, ◌^◌, ◌∙◌, ap, subst, sym}
use Rattle.plan_tree.specs.Work.{hash_work}
use Rattle.cost_model.specs.Prices.{own_cost, card_at}
use Rattle.cost_model.proofs.Bounds.{hash-few, not-capped}
use Rattle.cost_model.proofs.prices.Prices.hash.Goals as goal

pub returns : goal.returns
unfolding own_cost
returns c =
    let right = c.card-right.ensures.card ∙ ap (card_at c.args.self.now) c.without.ensures in
    let candidates = c.requires.candidates in
    let few = hash-few c.card.result c.card-right.result c.args.candidates c.card-2.result c.card.ensures.few c.card-right.ensures.few candidates.few c.card-2.ensures.few in
    let exact = not-capped _ _ c.hash.ensures few in
    record {
      own = exact ∙ λ i. hash_work (c.card.ensures.card i) (right i) (candidates.pairs i) (c.card-2.ensures.card i);
      bound = subst (λ n. n ≤ 2 ^ 108) (sym exact) few;
    }
