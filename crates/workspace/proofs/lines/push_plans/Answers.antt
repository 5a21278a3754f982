-- One plan more, behind a space if it isn't the first.
use Rattle.std.proofs.Common.{◌≡◌, ◌∙◌, ◌<◌, ◌++◌, ℕ, length, map, take, sym, ap, append-nil, arith}
use Rattle.plan_tree.specs.Plans.{plan_tree}
use Rattle.workspace.proofs.ContourTexts.{plans_more, space_behind, spaced, unspaced}
use Rattle.workspace.proofs.lines.push_plans.Goals as goal
use Rattle.workspace.proofs.lines.push_plans.Goals.{then-place-gt0+in_ok-push, else-place-gt0}

pub loop-place-preserved : goal.loop-place-preserved
loop-place-preserved c =
    let place : ℕ = c.loop-place.place in
    let plans = c.args.plans.now in
    let before = c.loop-place.text.items in
    let there : place < length plans = c.loop-place-test.true in
    let space : c.if-place-gt0.text.items ≡ before ++ space_behind (map plan_tree (take place plans)) =
    elim c.if-place-gt0.branch [
      | then-place-gt0+in_ok-push w ↦ ap (λ v. v.items) w.text-is ∙ w.in_ok-push.ensures.items ∙ ap (λ l. before ++ l) (sym (spaced place plans w.if-place-gt0.true there))
      | else-place-gt0 w ↦ ap (λ v. v.items) w.text-is ∙ sym (append-nil before) ∙ ap (λ l. before ++ l) (sym (unspaced place plans (omega (arith, w.if-place-gt0.false))))
    ] in
    plans_more place plans c.index-plans-place.result c.args.text.now.items before c.if-place-gt0.text.items c.push_plan.new.text.items there c.index-plans-place.is c.loop-place.invariant space c.in_ok-push_plan.ensures
