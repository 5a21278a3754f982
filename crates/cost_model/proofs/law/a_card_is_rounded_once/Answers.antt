use Rattle.cost_model.proofs.Cards.{card-once}
use Rattle.cost_model.proofs.law.a_card_is_rounded_once.Goals as goal

pub returns : goal.returns
returns c = card-once
