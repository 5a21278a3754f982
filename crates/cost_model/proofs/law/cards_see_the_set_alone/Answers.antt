use Rattle.cost_model.proofs.Alike.{card-of-alike}
use Rattle.cost_model.proofs.law.cards_see_the_set_alone.Goals as goal

pub returns : goal.returns
returns c = card-of-alike
