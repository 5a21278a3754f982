use Rattle.std.proofs.Common.{◌≡◌, ap, sym, subst, arith}
use Rattle.std.specs.Prelude.{Some}
use Rattle.cost_model.specs.Costing.{costing_tree}
use Rattle.cost_model.specs.Pricing.{Pricing}
use Rattle.plan_space.specs.KeptRows.{kept_row_at}
use Rattle.plan_space.specs.Table.{entry_at}
use Rattle.plan_space.specs.Search.{IsFilledBelow, IsLeastFound}
use Rattle.plan_space.proofs.LookedUp.{looked-up}
use Rattle.plan_space.proofs.table.Filling.entry_here.Goals as goal

pub returns-in-Some : goal.returns-in-Some
returns-in-Some c =
    let at = c.self.inside.prices.now in
    let set = c.args.set in
    let table = c.args.table.now in
    let ready = subst (λ (one : Pricing). IsFilledBelow (record { at = one; table = table; set = set })) (sym c.self.view_is) c.requires.filled in
    let found = c.alike_place-place.ensures in
    let row = c.in-Some.row.now in
    let kept : kept_row_at c.self.inside.rows.now c.alike_place-place.result ≡ Some row = sym c.in-Some.ensures in
    let least = c.self.invariant.tables c.alike_place-place.result found.other row kept found.there in
    subst (λ (one : Pricing). IsLeastFound (record { at = one; table = table; set = set }) (entry_at row c.number.result)) c.self.view_is
    (subst (IsLeastFound (record { at = at; table = table; set = set })) (sym (ap (entry_at row) c.number.ensures))
    (looked-up (costing_tree at.costing) found.other at.point row table set _ (λ side some less. least side some (omega (arith, less, ready.below))) ready.filled found.alike
    (least set ready.some ready.below)))
