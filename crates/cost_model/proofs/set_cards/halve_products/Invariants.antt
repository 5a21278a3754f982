use Rattle.std.proofs.Common.{◌≡◌, ℕ, ◌<◌, ◌≤◌, length, get_or}
use Rattle.plan_tree.specs.Sets.{set_of}
use Rattle.cost_model.specs.Costing.{costing_tree}
use Rattle.cost_model.specs.AtPoint.{stats_at}
use Rattle.cost_model.specs.Cards.{kept_product}
use Rattle.cost_model.specs.Pricing.{Pricing}
use Rattle.cost_model.specs.Prices.{IsSetOf, block_at, set_card}
use Rattle.cost_model.proofs.set_cards.halve_products.Given as goal

abbrev pub invariant-loop-set : goal.invariant-loop-set
invariant-loop-set l =
    let at : Pricing = record { costing = l.costing; point = l.q } in
    ((set : ℕ) → set < l.set → get_or l.cards set 0 ≡ set_card (costing_tree at.costing) at.point set)
    × ((set : ℕ) → l.set ≤ set → IsSetOf (block_at at) set → get_or l.cards set 0 ≡ kept_product (set_of set) 0 (stats_at (costing_tree at.costing) at.point).relations)
    × (length l.cards ≡ 64)
