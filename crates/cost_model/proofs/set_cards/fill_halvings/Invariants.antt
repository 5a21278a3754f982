use Rattle.cost_model.specs.SetCards.{AreHalvings}
use Rattle.cost_model.proofs.set_cards.fill_halvings.Given as goal

abbrev pub invariant-loop-edge : goal.invariant-loop-edge
invariant-loop-edge l = AreHalvings (record { costing = l.costing; point = l.q }) l.halvings l.edge
