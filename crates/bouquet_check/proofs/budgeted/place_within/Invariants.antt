use Rattle.std.proofs.Common.{◌≡◌, take}
use Rattle.std.specs.Prelude.{false, IfSome}
use Rattle.cost_model.specs.Costing.{costing_tree}
use Rattle.bouquet_check.specs.Verdicts.{fits_at}
use Rattle.bouquet_check.proofs.budgeted.place_within.Given as goal

abbrev pub invariant-loop-place : goal.invariant-loop-place
invariant-loop-place l = IfSome l.all.point (λ point. fits_at (costing_tree l.all.costing) l.budget (take l.place l.all.plans) point ≡ false)
