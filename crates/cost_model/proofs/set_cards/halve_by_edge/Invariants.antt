use Rattle.std.proofs.Common.{◌≡◌, ℕ, ◌+◌, ◌<◌, ◌≤◌, length, get_or}
use Rattle.cost_model.specs.Pricing.{Pricing}
use Rattle.cost_model.specs.SetCards.{IsHalved}
use Rattle.cost_model.proofs.set_cards.halve_by_edge.Given as goal

abbrev pub invariant-loop-set : goal.invariant-loop-set
invariant-loop-set l =
    let at : Pricing = record { costing = l.costing; point = l.q } in
    ((set : ℕ) → set < l.set → IsHalved at set (l.edge + 1) (get_or l.halvings set 0))
    × ((set : ℕ) → l.set ≤ set → set < 64 → IsHalved at set l.edge (get_or l.halvings set 0))
    × (length l.halvings ≡ 64)
