-- The contour has the plan, or it is behind it, or it is the last one.
use Rattle.std.proofs.Common.{◌≡◌, ◌∙◌, ℕ, ◌+◌, ◌-◌, ◌<◌, ◌≤◌, ◌++◌, List, [], ◌∷◌, drop, length, map, get_or, sym, ap, subst, arith}
use Rattle.std.proofs.lemmas.List.{drop_more, drop_all, get_or-map, length-map}
use Rattle.plan_tree.specs.Plans.{Scan, plan_tree}
use Rattle.bouquet_type.specs.Budgets.{budget_of}
use Rattle.bouquet_type.specs.Cursor.{first_attempt}
use Rattle.bouquet_type.specs.Schedule.{final_of, final_plan, last_plan, members_from, members_on, schedule}
use Rattle.bouquet_type.specs.Trees.{ContourTree, bouquet_tree, contour_tree}
use Rattle.bouquet_type.specs.declared.contour.Contour.{Contour}
use Rattle.session.proofs.Executed.{behind-contour, final-placed, last-placed, on-contour}
use Rattle.session.proofs.turn_lines.executed_plan.Goals as goal

-- the members of the contours from one on
members-there : (threshold number : ℕ) (contours : List Contour) (place : ℕ) (contour : Contour) → place < length contours → contour ≡ get_or contours place contour
    → members_from threshold number (map contour_tree (drop place contours))
    ≡ members_on (budget_of threshold contour.cost) number contour.cost 1 (contour_tree contour).plans ++ members_from threshold (number + 1) (map contour_tree (drop (place + 1) contours))
members-there threshold number contours place contour there is =
    ap (λ left. members_from threshold number (map contour_tree left)) (drop_more contours place contour there ∙ ap (λ one. one ∷ drop (place + 1) contours) (sym is))

pub returns-then-before-len : goal.returns-then-before-len
returns-then-before-len c =
    let b = c.args.b.now in
    let final = final_plan (bouquet_tree b) in
    let contours : List Contour = c.contours-contours.result.now in
    let at : ℕ = c.loop-contour.contour-index in
    let before : ℕ = c.loop-contour.before in
    let contour : Contour = c.contour-item.result in
    let p = c.index.result.now in
    let plans = contour.plans.items in
    let there : before < length plans = omega (arith, c.if-before-len.true, c.len.ensures) in
    let rest = members_from b.threshold (at + 1 + 1) (map contour_tree (drop (at + 1) contours)) in
    let placed = c.loop-contour.invariant ∙ ap (λ l. drop before l) (members-there b.threshold (at + 1) contours at contour c.loop-contour-test.true c.contour-item.is) in
    let found = on-contour (budget_of b.threshold contour.cost) (at + 1) contour.cost 1 before (map plan_tree plans) rest final
    (omega (arith, there, length-map plans plan_tree)) in
    ap plan_tree c.index.ensures ∙ sym (get_or-map plan_tree plans before p (Scan 0) there)
    ∙ sym (ap (λ left. (first_attempt left final).plan) placed ∙ found)

pub loop-contour-preserved : goal.loop-contour-preserved
loop-contour-preserved c =
    let b = c.args.b.now in
    let contours : List Contour = c.contours-contours.result.now in
    let at : ℕ = c.loop-contour.contour-index in
    let before : ℕ = c.loop-contour.before in
    let contour : Contour = c.contour-item.result in
    let plans = contour.plans.items in
    let rest = members_from b.threshold (at + 1 + 1) (map contour_tree (drop (at + 1) contours)) in
    let past : length (map plan_tree plans) ≤ before = omega (arith, c.if-before-len.false, c.len.ensures, length-map plans plan_tree) in
    let fewer : before - length (map plan_tree plans) ≡ before - c.len-before.result = omega (arith, c.len-before.ensures, length-map plans plan_tree) in
    c.loop-contour.invariant
    ∙ ap (λ l. drop before l) (members-there b.threshold (at + 1) contours at contour c.loop-contour-test.true c.contour-item.is)
    ∙ behind-contour (budget_of b.threshold contour.cost) (at + 1) contour.cost 1 before (map plan_tree plans) rest past
    ∙ ap (λ n. drop n rest) fewer

pub returns : goal.returns
returns c =
    let b = c.args.b.now in
    let final = final_plan (bouquet_tree b) in
    let contours : List Contour = c.contours-contours.result.now in
    let same : contours ≡ b.contours = c.contours-contours.ensures.contours in
    let at : ℕ = c.loop-contour.contour-index in
    let before : ℕ = c.loop-contour.before in
    let last : ℕ = length contours - 1 in
    let none : ContourTree = record { cost = 0; plans = [] } in
    let d : Contour = c.index-contours-contours.result in
    let contour : Contour = get_or contours last d in
    let plans = contour.plans.items in
    let p = c.index-2.result.now in
    let place : ℕ = c.len-2.result - 1 in
    let nothing : drop (c.args.place - 1) (schedule (bouquet_tree b)) ≡ [] =
    c.loop-contour.invariant
    ∙ ap (λ left. drop before (members_from b.threshold (at + 1) (map contour_tree left))) (drop_all at contours c.loop-contour-test.false)
    ∙ drop_all before [] (omega arith) in
    let some : 1 ≤ length contours = omega (arith, c.contours-contours.ensures.bouquet.some, ap (λ (all : List Contour). length all) same) in
    let plan : 1 ≤ length plans =
    subst (λ (all : List Contour). 1 ≤ length (get_or all (length all - 1) d).plans.items) (sym same)
    (c.contours-contours.ensures.bouquet.contours (length b.contours - 1) d (omega (arith, c.contours-contours.ensures.bouquet.some))).some in
    ap plan_tree c.index-2.ensures
    ∙ sym (get_or-map plan_tree plans place p (Scan 0) (omega (arith, plan, c.len-2.ensures)))
    ∙ last-placed (map plan_tree plans) place (omega (arith, plan, c.len-2.ensures, length-map plans plan_tree))
    ∙ ap (λ (one : ContourTree). last_plan one.plans) (sym (get_or-map contour_tree contours last d none (omega (arith, some))))
    ∙ final-placed (map contour_tree contours) last none (omega (arith, some, length-map contours contour_tree))
    ∙ ap (λ all. final_of (map contour_tree all)) same
    ∙ sym (ap (λ left. (first_attempt left final).plan) nothing)
