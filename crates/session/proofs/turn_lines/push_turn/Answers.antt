-- The parts of the line, one behind the other.
use Rattle.std.proofs.Common.{◌≡◌, ◌∙◌, ℕ, ◌+◌, ◌<◌, List, [], ◌++◌, Option, Some, length, map, get_or, sym, ap, append_assoc, arith}
use Rattle.std.specs.Prelude.{codes, decimal, slice_get}
use Rattle.std.specs.Option.{option_map_or}
use Rattle.std.proofs.lemmas.List.{get_or-map, length-map}
use Rattle.std.proofs.lemmas.Option.{slice_get-get_or}
use Rattle.plan_tree.specs.Plans.{plan_tree}
use Rattle.plan_tree.specs.Text.{plan_text_of}
use Rattle.bouquet_type.specs.Trees.{BouquetTree, bouquet_tree}
use Rattle.session.specs.Printed.{executed_plan}
use Rattle.session.specs.Uses.{bouquets_of}
use Rattle.session.specs.declared.uses.Used.{Used}
use Rattle.session.proofs.turn_lines.push_turn.Goals as goal

in_turn : (text l0 job l1 contour l2 plan l3 spent end : List ℕ)
    → (((((text ++ (l0 ++ job)) ++ (l1 ++ contour)) ++ l2) ++ plan) ++ (l3 ++ spent)) ++ end
    ≡ text ++ (l0 ++ (job ++ (l1 ++ (contour ++ (l2 ++ (plan ++ (l3 ++ (spent ++ end))))))))
in_turn text l0 job l1 contour l2 plan l3 spent end = simp append_assoc

-- the bouquet of a job
bouquet-there : (all : List Used) (place : ℕ) (used : Used) → place < length all → used ≡ get_or all place used
    → slice_get (bouquets_of all) place ≡ Some (bouquet_tree used.bouquet.now)
bouquet-there all place used there is =
    let tree : Used → BouquetTree = λ one. bouquet_tree one.bouquet.now in
    slice_get-get_or (map tree all) place (tree used) (omega (arith, there, length-map all tree))
    ∙ ap (λ b. Some b) (get_or-map tree all place used (tree used) there ∙ ap tree (sym is))

pub returns : goal.returns
returns c =
    let turn = c.args.turn.now in
    let all : List Used = c.args.all.now in
    let used : Used = c.index-all-turn.result in
    let start = c.args.text.now.items in
    let plan = executed_plan (bouquet_tree used.bouquet.now) turn.place in
    let text : Option BouquetTree → List ℕ = λ found. option_map_or (λ (bouquet : BouquetTree). plan_text_of (executed_plan bouquet turn.place)) found [] in
    let numbered : c.push_labelled.new.text.items ≡ start ++ (codes "-- turn job=" ++ decimal (turn.job + 1)) =
    c.in_ok-push_labelled.ensures ∙ ap (λ n. start ++ (codes "-- turn job=" ++ decimal (n + 1))) c.from.ensures in
    let contoured : c.push_labelled-2.new.text.items ≡ (start ++ (codes "-- turn job=" ++ decimal (turn.job + 1))) ++ (codes " contour=" ++ decimal turn.contour) =
    c.in_ok-push_labelled-2.ensures ∙ (λ i. numbered i ++ (codes " contour=" ++ decimal (c.from-2.ensures i))) in
    let there : plan_tree c.executed_plan.result.now ≡ plan =
    c.executed_plan.ensures ∙ ap (λ (one : Used). executed_plan (bouquet_tree one.bouquet.now) turn.place) (sym c.index-all-turn.is) in
    let planned = c.in_ok-push_plan.ensures ∙ (λ i. (c.in_ok-extend_from_slice.ensures.items ∙ ap (λ l. l ++ codes " plan=") contoured) i ++ plan_text_of (there i)) in
    let spent = c.in_ok-push_labelled-3.ensures ∙ ap (λ l. l ++ (codes " spent=" ++ decimal turn.spent)) planned in
    c.in_ok-push.ensures.items ∙ ap (λ l. l ++ codes "\n") spent
    ∙ in_turn start (codes "-- turn job=") (decimal (turn.job + 1)) (codes " contour=") (decimal turn.contour) (codes " plan=") (plan_text_of plan) (codes " spent=") (decimal turn.spent) (codes "\n")
    ∙ ap (λ found. start ++ (codes "-- turn job=" ++ (decimal (turn.job + 1) ++ (codes " contour=" ++ (decimal turn.contour ++ (codes " plan=" ++ (text found ++ (codes " spent=" ++ (decimal turn.spent ++ codes "\n")))))))))
    (sym (bouquet-there all turn.job used c.requires.job c.index-all-turn.is))
