use Rattle.std.proofs.Common.{◌≡◌, ◌+◌, length}
use Rattle.cost_model.specs.SetCards.{AreProducts}
use Rattle.cost_model.proofs.set_cards.add_relation.Given as goal

abbrev pub invariant-loop-rest : goal.invariant-loop-rest
invariant-loop-rest l = AreProducts (record { costing = l.costing; point = l.q }) l.products (l.alone + l.rest) × (length l.products ≡ 64)
