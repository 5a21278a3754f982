-- The parts of the line, one behind the other.
use Rattle.std.proofs.Common.{◌≡◌, ◌∙◌, ℕ, List, ◌++◌, ap, append_assoc}
use Rattle.std.specs.Prelude.{codes, decimal}
use Rattle.workspace.specs.Printed.{point_text}
use Rattle.session.specs.Printed.{yes_or_no}
use Rattle.session.proofs.lines.audit_line.Goals as goal

in_turn : (l0 point l1 plans l2 below l3 a l4 b l5 cheapest l6 r l7 work end : List ℕ)
    → (((((((((l0 ++ point) ++ (l1 ++ plans)) ++ l2) ++ below) ++ (l3 ++ a)) ++ (l4 ++ b)) ++ (l5 ++ cheapest)) ++ (l6 ++ r)) ++ (l7 ++ work)) ++ end
    ≡ l0 ++ (point ++ (l1 ++ (plans ++ (l2 ++ (below ++ (l3 ++ (a ++ (l4 ++ (b ++ (l5 ++ (cheapest ++ (l6 ++ (r ++ (l7 ++ (work ++ end)))))))))))))))
in_turn l0 point l1 plans l2 below l3 a l4 b l5 cheapest l6 r l7 work end = simp append_assoc

pub returns : goal.returns
returns c =
    let audit = c.args.audit.now in
    let number : (label : List ℕ) → ℕ → List ℕ → List ℕ = λ label n text. text ++ (label ++ decimal n) in
    let placed = c.in_ok-push_point.ensures ∙ (λ i. c.in_ok-text.ensures.items i ++ point_text (c.levels.ensures.levels i)) in
    let counted = c.in_ok-push_labelled.ensures ∙ (λ i. number (codes " plans=") (c.from.ensures i) (placed i)) in
    let below = c.in_ok-extend_from_slice-2.ensures.items ∙ (λ i. (c.in_ok-extend_from_slice.ensures.items ∙ ap (λ l. l ++ codes " below=") counted) i ++ (c.as_bytes.ensures.value ∙ c.yes_or_no.ensures) i) in
    let worst = c.in_ok-push_labelled-3.ensures ∙ ap (number (codes " b=") audit.b) (c.in_ok-push_labelled-2.ensures ∙ ap (number (codes " a=") audit.a) below) in
    let least = c.in_ok-push_labelled-4.ensures ∙ ap (number (codes " cheapest=") audit.cheapest) worst in
    let most = c.in_ok-push_labelled-5.ensures ∙ (λ i. number (codes " r=") (c.from-2.ensures i) (least i)) in
    c.in_ok-push.ensures.items ∙ ap (λ l. l ++ codes "\n") (c.in_ok-push_labelled-6.ensures ∙ ap (number (codes " work=") audit.work) most)
    ∙ in_turn (codes "-- audit point=") (point_text audit.point) (codes " plans=") (decimal audit.plans) (codes " below=") (yes_or_no audit.below) (codes " a=") (decimal audit.a)
    (codes " b=") (decimal audit.b) (codes " cheapest=") (decimal audit.cheapest) (codes " r=") (decimal audit.r) (codes " work=") (decimal audit.work) (codes "\n")
