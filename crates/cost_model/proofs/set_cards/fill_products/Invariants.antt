use Rattle.std.proofs.Common.{◌^◌}
use Rattle.cost_model.specs.SetCards.{AreProducts}
use Rattle.cost_model.proofs.set_cards.fill_products.Given as goal

abbrev pub invariant-loop-relation : goal.invariant-loop-relation
invariant-loop-relation l = AreProducts (record { costing = l.costing; point = l.q }) l.products (2 ^ l.relation)
