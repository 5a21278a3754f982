-- The line of one contour more.
use Rattle.std.proofs.Common.{◌≡◌, ◌∙◌, ℕ, ◌+◌, ◌-◌, ◌<◌, List, length, map, get_or, ap, arith}
use Rattle.bouquet_type.specs.Budgets.{budget_of}
use Rattle.bouquet_type.specs.declared.contour.Contour.{Contour}
use Rattle.workspace.proofs.ContourTexts.{contours_more, cost_there}
use Rattle.workspace.proofs.lines.contour_lines.Goals as goal

pub loop-place-preserved : goal.loop-place-preserved
loop-place-preserved c =
    let contours : List Contour = c.args.bouquet.now.contours in
    let place : ℕ = c.loop-place.place in
    let contour : Contour = c.contour-item.result in
    let threshold : ℕ = c.args.bouquet.now.threshold in
    let there : place < length contours = rw (← c.contours-contour-items.ensures.contours) c.loop-place-test.true in
    let is : contour ≡ get_or contours place contour = rw (← c.contours-contour-items.ensures.contours) c.contour-item.is in
    let first : place + 1 - 1 ≡ place = omega arith in
    let budget : c.budget.result ≡ budget_of threshold contour.cost =
    c.budget.ensures.budget ∙ ap (λ n. budget_of threshold (get_or (map (λ (one : Contour). one.cost) contours) n 0)) first ∙ ap (budget_of threshold) (cost_there contours place contour there is) in
    contours_more threshold place contours contour c.loop-place.text.items c.push_contour.new.text.items there is c.loop-place.invariant (rw budget at c.in_ok-push_contour.ensures)
