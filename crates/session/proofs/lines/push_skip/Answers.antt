-- The parts of the line, one behind the other.
use Rattle.std.proofs.Common.{◌≡◌, ◌∙◌, inl, inr, ℕ, ◌-◌, ◌<◌, ◌≤◌, List, [], ◌++◌, length, map, get_or, slice_index_or, sym, ap, subst, append_assoc, arith, Option}
use Rattle.std.specs.Prelude.{codes, decimal, IsSomeAnd, slice_get}
use Rattle.std.proofs.lemmas.List.{get_or-map, length-map}
use Rattle.std.proofs.lemmas.Option.{slice_get_cases}
use Rattle.plan_tree.specs.declared.plan.Plan.{Plan}
use Rattle.plan_tree.specs.Plans.{Scan, plan_tree}
use Rattle.plan_tree.specs.Text.{plan_text_of}
use Rattle.bouquet_type.specs.Trees.{ContourTree, bouquet_tree, contour_tree}
use Rattle.bouquet_type.specs.declared.contour.Contour.{Contour}
use Rattle.workspace.specs.Printed.{point_text}
use Rattle.session.specs.Printed.{plan_on}
use Rattle.session.proofs.lines.push_skip.Goals as goal

in_turn : (text l0 number l1 plan l2 point end : List ℕ) → (((((text ++ (l0 ++ number)) ++ l1) ++ plan) ++ l2) ++ point) ++ end ≡ text ++ (l0 ++ (number ++ (l1 ++ (plan ++ (l2 ++ (point ++ end))))))
in_turn text l0 number l1 plan l2 point end = simp append_assoc

-- a plan by its place in its contour, and that by its place in the bouquet
plan_there : (contours : List Contour) (number place : ℕ) (contour : Contour) (p : Plan) → number < length contours → contour ≡ get_or contours number contour
    → place < length contour.plans.items → p ≡ get_or contour.plans.items place p
    → plan_tree p ≡ slice_index_or (slice_index_or (map contour_tree contours) number (record { cost = 0; plans = [] })).plans place (Scan 0)
plan_there contours number place contour p there is there' is' =
    let seen : slice_index_or (map contour_tree contours) number (record { cost = 0; plans = [] }) ≡ contour_tree contour =
    get_or-map contour_tree contours number contour (record { cost = 0; plans = [] }) there ∙ ap contour_tree (sym is) in
    ap plan_tree is' ∙ sym (get_or-map plan_tree contour.plans.items place p (Scan 0) there')
    ∙ ap (λ (one : ContourTree). slice_index_or one.plans place (Scan 0)) (sym seen)

-- the contour is there, and has so many plans
contour_there : (contours : List Contour) (number place : ℕ) → IsSomeAnd (slice_get (map contour_tree contours) number) (λ contour. place ≤ length contour.plans)
    → (number < length contours) × ((contour : Contour) → contour ≡ get_or contours number contour → place ≤ length contour.plans.items)
contour_there contours number place is =
    let trees = map contour_tree contours in
    let HasPlans : Option ContourTree → Type 0 = λ found. IsSomeAnd found (λ contour. place ≤ length contour.plans) in
    elim (slice_get_cases trees number).1 [
      | inl found ↦
          let there : number < length contours = omega (arith, found.1, length-map contours contour_tree) in
          let enough : place ≤ length found.0.plans = subst HasPlans found.2 is in (
            there,
            λ contour here.
                let same : found.0 ≡ contour_tree contour =
                sym found.3 ∙ get_or-map contour_tree contours number contour found.0 there ∙ ap contour_tree (sym here) in
                omega (arith, enough, ap (λ (one : ContourTree). length one.plans) same, length-map contour.plans.items plan_tree),
          )
      | inr none ↦ absurd (subst HasPlans none.1 is)
    ]

pub returns : goal.returns
returns c =
    let skip = c.args.skip.now in
    let bouquet = bouquet_tree c.args.bouquet.now in
    let start = c.args.text.now.items in
    let plan = plan_on bouquet skip.contour skip.plan in
    let contours : List Contour = c.args.bouquet.now.contours in
    let contour : Contour = c.index-contours-skip.result in
    let found = contour_there contours (skip.contour - 1) skip.plan c.requires.there in
    let is : contour ≡ get_or contours (skip.contour - 1) contour =
    c.index-contours-skip.is ∙ ap (λ (all : List Contour). get_or all (skip.contour - 1) contour) c.contours.ensures.contours in
    let there : plan_tree c.index.result.now ≡ plan =
    plan_there contours (skip.contour - 1) (skip.plan - 1) contour c.index.result.now found.0 is (omega (arith, found.1 contour is, c.requires.place)) c.index.ensures in
    let numbered : c.push_labelled.new.text.items ≡ start ++ (codes "-- skip contour=" ++ decimal skip.contour) =
    c.in_ok-push_labelled.ensures ∙ ap (λ n. start ++ (codes "-- skip contour=" ++ decimal n)) c.from.ensures in
    let planned : c.push_plan.new.text.items ≡ ((start ++ (codes "-- skip contour=" ++ decimal skip.contour)) ++ codes " plan=") ++ plan_text_of plan =
    c.in_ok-push_plan.ensures ∙ (λ i. (c.in_ok-extend_from_slice.ensures.items ∙ ap (λ l. l ++ codes " plan=") numbered) i ++ plan_text_of (there i)) in
    let pointed = c.in_ok-push_point.ensures ∙ (λ i. (c.in_ok-extend_from_slice-2.ensures.items ∙ ap (λ l. l ++ codes " point=") planned) i ++ point_text (c.levels.ensures.levels i)) in
    c.in_ok-push.ensures.items ∙ ap (λ l. l ++ codes "\n") pointed
    ∙ in_turn start (codes "-- skip contour=") (decimal skip.contour) (codes " plan=") (plan_text_of plan) (codes " point=") (point_text skip.point) (codes "\n")
