use Rattle.std.proofs.Common.{ℕ}
use Rattle.std.proofs.Math.ListN.{replicate}
use Rattle.std.proofs.lemmas.List.{get_or-replicate}
use Rattle.cost_model.proofs.SetCards.{not-halved}
use Rattle.cost_model.proofs.set_cards.fill_halvings.Goals as goal

pub loop-edge-init : goal.loop-edge-init
loop-edge-init c =
    not-halved (record { costing = c.args.costing.now; point = c.args.q.now }) (replicate {A = ℕ} 64 0) (λ set small. get_or-replicate 64 set 0 0 small)
