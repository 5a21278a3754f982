use Rattle.std.proofs.Common.{get_or, ap, ◌∙◌, subst, arith}
use Rattle.cost_model.specs.Costing.{costing_tree}
use Rattle.plan_tree.specs.Sets.{set_of}
use Rattle.cost_model.specs.Prices.{ArePrices}
use Rattle.cost_model.proofs.Bounds.{card-below}
use Rattle.cost_model.proofs.SetCards.{set-small}
use Rattle.cost_model.proofs.prices.Prices.card.Goals as goal

pub bounds-self-inside-number : goal.bounds-self-inside-number
bounds-self-inside-number c =
    let prices = subst (λ at. ArePrices at c.self.inside.room.now.cards) c.self.view_is c.self.invariant in
    omega (arith, c.number.ensures, set-small (costing_tree c.args.self.now.costing) c.args.set prices.is_costing c.requires)

pub returns-clause-card : goal.returns-clause-card
returns-clause-card c =
    let prices = subst (λ at. ArePrices at c.self.inside.room.now.cards) c.self.view_is c.self.invariant in
    ap (λ set. get_or c.self.inside.room.now.cards set 0) c.number.ensures ∙ prices.are_cards c.args.set c.requires

pub returns-clause-few : goal.returns-clause-few
returns-clause-few c =
    let prices = subst (λ at. ArePrices at c.self.inside.room.now.cards) c.self.view_is c.self.invariant in
    let card = ap (λ set. get_or c.self.inside.room.now.cards set 0) c.number.ensures ∙ prices.are_cards c.args.set c.requires in
    omega (arith, card, card-below (costing_tree c.args.self.now.costing) (set_of c.args.set) c.args.self.now.point prices.is_costing)

pub returns-clause-costing : goal.returns-clause-costing
returns-clause-costing c =
    let prices = subst (λ at. ArePrices at c.self.inside.room.now.cards) c.self.view_is c.self.invariant in
    prices.is_costing
