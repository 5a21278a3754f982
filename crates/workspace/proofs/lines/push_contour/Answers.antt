-- The parts of the line, one behind the other.
use Rattle.std.proofs.Common.{◌≡◌, ◌∙◌, ℕ, List, ◌++◌, ap, map, append_assoc}
use Rattle.std.specs.Prelude.{codes, decimal}
use Rattle.plan_tree.specs.Plans.{plan_tree}
use Rattle.workspace.specs.Printed.{plan_texts}
use Rattle.workspace.proofs.lines.push_contour.Goals as goal

in_turn : (text a b c d e f : List ℕ) → (((((text ++ a) ++ b) ++ c) ++ d) ++ e) ++ f ≡ text ++ (a ++ (b ++ (c ++ (d ++ (e ++ f)))))
in_turn text a b c d e f = simp append_assoc

pub returns : goal.returns
returns c =
    let number = codes "-- contour=" ++ decimal c.args.number in
    let cost = codes " cost=" ++ decimal c.args.contour.now.cost in
    let budget = codes " budget=" ++ decimal c.args.budget in
    let plans = plan_texts (map plan_tree c.args.contour.now.plans.items) in
    let start = c.args.text.now.items in
    let labelled : c.push_labelled-3.new.text.items ≡ ((start ++ number) ++ cost) ++ budget =
    c.in_ok-push_labelled-3.ensures ∙ ap (λ l. l ++ budget) (c.in_ok-push_labelled-2.ensures ∙ ap (λ l. l ++ cost) c.in_ok-push_labelled.ensures) in
    let listed : c.push_plans.new.text.items ≡ ((((start ++ number) ++ cost) ++ budget) ++ codes " plans=") ++ plans =
    c.in_ok-push_plans.ensures ∙ ap (λ ps. c.extend_from_slice.new.self.items ++ plan_texts (map plan_tree ps)) c.as_slice.ensures.value ∙ ap (λ l. l ++ plans) (c.in_ok-extend_from_slice.ensures.items ∙ ap (λ l. l ++ codes " plans=") labelled) in
    c.in_ok-push.ensures.items ∙ ap (λ l. l ++ codes "\n") listed
    ∙ in_turn start number cost budget (codes " plans=") plans (codes "\n")
